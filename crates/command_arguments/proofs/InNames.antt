-- Within a name in brackets.
use Rattle.std.proofs.Common.{◌≡◌, ◌≢◌, ℕ, List, [], ◌∷◌, ◌++◌, sym, subst, Option, Some}
use Rattle.std.specs.Prelude.{encode_utf8}
use Rattle.text_forms.specs.Forms.{Steps}
use Rattle.text_forms.specs.Names.{InName}
use Rattle.text_forms.specs.NameFacts.{name_more, name_more_up, name_close, name_close_up, name_open, in_name_anywhere, closing_anywhere}
use Rattle.command_arguments.specs.declared.name.NameReader.{NameReader}
use Rattle.command_arguments.specs.declared.name.NameReader.TheVariants as reader
use Rattle.command_arguments.specs.Name.{Ended, rest_of}

-- a step from a state is one from an equal state
at_state : (s known : NameReader) (at c : ℕ) (next : Option NameReader) → s ≡ known → Steps rest_of known at c next → Steps rest_of s at c next
at_state s known at c next e h = subst (λ x. Steps rest_of x at c next) (sym e) h

-- a "]" may end the name
pub name_closes : (s : NameReader) (u : List ℕ) (at c : ℕ) → s ≡ reader.InName u → c ≡ 93 → Steps rest_of s at c (Some (reader.Closing u))
name_closes s u at c e f = at_state s (reader.InName u) at c (Some (reader.Closing u)) e (λ cs own. (
  (λ r. closing_anywhere (Ended own 0) 1 0 (name_close (Ended own) (subst (λ x. InName u (Ended own) 0 (x ∷ cs)) f r))),
  (λ r. subst (λ x. InName u (Ended own) 0 (x ∷ cs)) (sym f) (name_close_up (Ended own) {at = 0} (closing_anywhere (Ended own 0) 0 1 r))),
))

-- another character is one more of the name
pub name_goes : (s : NameReader) (u v : List ℕ) (at c : ℕ) → s ≡ reader.InName u → c ≢ 93 → v ≡ u ++ encode_utf8 c → Steps rest_of s at c (Some (reader.InName v))
name_goes s u v at c e n f = at_state s (reader.InName u) at c (Some (reader.InName v)) e (λ cs own. (
  (λ r. subst (λ x. InName x (Ended own) 0 cs) (sym f) (in_name_anywhere (Ended own 0) (name_more (Ended own) n r))),
  (λ r. name_more_up (Ended own) n (in_name_anywhere (Ended own 0) (subst (λ x. InName x (Ended own) 0 cs) f r))),
))

-- no text ends in the name
pub name_unended : (s : NameReader) (u : List ℕ) (at : ℕ) (own : List ℕ) → s ≡ reader.InName u → ¬ rest_of s at [] own
name_unended s u at own e r = name_open (Ended own) (subst (λ x. rest_of x at [] own) e r)
