-- Within the name of a cube.
use Rattle.std.proofs.Common.{◌≡◌, ◌≢◌, ℕ, List, [], ◌∷◌, ◌++◌, inl, sym, subst, arith, Option, Some, None, Result, Ok, Err, IfOk}
use Rattle.std.specs.Prelude.{encode_utf8}
use Rattle.olap_meaning.specs.declared.OutOfMemory.{OutOfMemory}
use Rattle.text_forms.specs.Forms.{Steps}
use Rattle.text_forms.specs.Names.{InName}
use Rattle.text_forms.proofs.Alike.{same_ascii}
use Rattle.text_forms.specs.NameFacts.{name_more, name_more_up, name_close, name_close_up, closing_ends, name_open, in_name_anywhere, closing_anywhere}
use Rattle.command_arguments.specs.declared.append.AppendArgument.{AppendArgument}
use Rattle.command_arguments.specs.declared.append.AppendReader.{AppendReader}
use Rattle.command_arguments.specs.declared.append.AppendReader.TheVariants as append
use Rattle.command_arguments.specs.Append.{Named, rest_of}

-- a step from a state is one from an equal state
at_state : (s known : AppendReader) (at c : ℕ) (next : Option AppendReader) → s ≡ known → Steps rest_of known at c next → Steps rest_of s at c next
at_state s known at c next e h = subst (λ x. Steps rest_of x at c next) (sym e) h

-- a "]" may end the name
pub name_closes : (s : AppendReader) (u : List ℕ) (at c : ℕ) → s ≡ append.InName u → c ≡ 93 → Steps rest_of s at c (Some (append.Closing u))
name_closes s u at c e f = at_state s (append.InName u) at c (Some (append.Closing u)) e (λ cs q. (
  (λ r. closing_anywhere (Named q 0) 1 0 (name_close (Named q) (subst (λ x. InName u (Named q) 0 (x ∷ cs)) f r))),
  (λ r. subst (λ x. InName u (Named q) 0 (x ∷ cs)) (sym f) (name_close_up (Named q) {at = 0} (closing_anywhere (Named q 0) 0 1 r))),
))

-- another character is one more of the name
pub name_goes : (s : AppendReader) (u v : List ℕ) (at c : ℕ) → s ≡ append.InName u → c ≢ 93 → v ≡ u ++ encode_utf8 c → Steps rest_of s at c (Some (append.InName v))
name_goes s u v at c e n f = at_state s (append.InName u) at c (Some (append.InName v)) e (λ cs q. (
  (λ r. subst (λ x. InName x (Named q) 0 cs) (sym f) (in_name_anywhere (Named q 0) (name_more (Named q) n r))),
  (λ r. name_more_up (Named q) n (in_name_anywhere (Named q 0) (subst (λ x. InName x (Named q) 0 cs) f r))),
))

-- the name ended before this character
name_ends : (u : List ℕ) (at c : ℕ) (next : Option AppendReader) → c ≢ 93 → u ≢ [] → Steps rest_of (append.Between u) at c next → Steps rest_of (append.Closing u) at c next
name_ends u at c (Some next) n some h = λ cs q. (
  (λ r. (h cs q).0 (closing_ends (Named q) {at = 0} n r).1),
  (λ r. inl (some, (h cs q).1 r)),
)
name_ends u at c None n some h = λ d cs q a r. h d cs q a (closing_ends (Named q) {at = 0} (λ e. n (same_ascii c d 93 (omega arith) a e)) r).1

-- the name ended before this character, whatever comes of it
pub name_ended : (u : List ℕ) (c : ℕ) (r : Result (Option AppendReader) OutOfMemory) → c ≢ 93 → u ≢ [] → IfOk r (λ next. (at : ℕ) → Steps rest_of (append.Between u) at c next) → IfOk r (λ next. (at : ℕ) → Steps rest_of (append.Closing u) at c next)
name_ended u c (Ok next) n some h = λ at. name_ends u at c next n some (h at)
name_ended u c (Err error) n some h = tt

-- no text ends in the name
pub name_unended : (s : AppendReader) (u : List ℕ) (at : ℕ) (q : AppendArgument) → s ≡ append.InName u → ¬ rest_of s at [] q
name_unended s u at q e r = name_open (Named q) (subst (λ x. rest_of x at [] q) e r)
