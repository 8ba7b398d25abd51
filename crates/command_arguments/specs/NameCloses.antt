-- Closing texts of the argument that is a name in brackets.
use Rattle.std.specs.Prelude.{ℕ, List, [], ◌∷◌}
use Rattle.std.proofs.Common.{arith, inr, refl}
use Rattle.std.proofs.lemmas.Str.Ascii.{IsAscii-nil, IsAscii-cons}
use Rattle.text_forms.specs.Forms.{GoesOn}
use Rattle.text_forms.specs.NameFacts.{in_name_closes, closing_closes}
use Rattle.command_arguments.specs.declared.name.NameReader.{NameReader}
use Rattle.command_arguments.specs.declared.name.NameReader.TheVariants as reader
use Rattle.command_arguments.specs.Name.{Ended, rest_of, fits}

-- after a name nothing needs to come
end_closes : (n : ℕ) (name : List ℕ) → GoesOn (λ cs own. Ended own n name cs)
end_closes n name = record {
  closing = [];
  whole = name;
  ascii = IsAscii-nil;
  goes = (refl, refl);
}

-- before and in a name its end may come
pub name_closes : (state : NameReader) (at : ℕ) → fits state → GoesOn (rest_of state at)
name_closes reader.Before at h =
    let g =
    in_name_closes (λ n name cs own. Ended own n name cs) (λ n name some. end_closes n name) [] 1 in
    record {
      closing = 91 ∷ g.closing;
      whole = g.whole;
      ascii = IsAscii-cons 91 g.closing (omega arith) g.ascii;
      goes = inr (g.closing, refl, g.goes);
    }
name_closes (reader.InName name) at h =
    in_name_closes (λ n name cs own. Ended own n name cs) (λ n name some. end_closes n name) name 0
name_closes (reader.Closing name) at h =
    closing_closes (λ n name cs own. Ended own n name cs) (λ n name some. end_closes n name) name 0
name_closes (reader.Behind name) at h = end_closes 0 name
