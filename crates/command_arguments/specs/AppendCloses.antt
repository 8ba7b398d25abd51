-- Closing texts of the argument that is a name in brackets and a file name.
use Rattle.std.specs.Prelude.{ℕ, List, [], ◌∷◌, encode_utf8}
use Rattle.std.proofs.Common.{arith, inr, refl}
use Rattle.std.proofs.lemmas.Str.Ascii.{IsAscii-nil, IsAscii-cons}
use Rattle.text_forms.specs.Forms.{GoesOn}
use Rattle.text_forms.specs.NameFacts.{in_name_closes, closing_closes}
use Rattle.command_arguments.specs.declared.append.AppendReader.{AppendReader}
use Rattle.command_arguments.specs.declared.append.AppendReader.TheVariants as append
use Rattle.command_arguments.specs.Append.{Named, rest_of, fits}

-- after a name a file name of one character may come
file_closes : (n : ℕ) (cube : List ℕ) → GoesOn (λ cs q. Named q n cube cs)
file_closes n cube = record {
  closing = 48 ∷ [];
  whole = record { cube = cube; file = encode_utf8 48 };
  ascii = IsAscii-cons 48 [] (omega arith) IsAscii-nil;
  goes = (refl, inr (refl, (λ e. absurd (omega (arith, e))), (refl, refl)));
}

-- before and in a name its end and such a file name may come, and after a file name nothing needs to come
pub append_closes : (state : AppendReader) (at : ℕ) → fits state → GoesOn (rest_of state at)
append_closes append.Before at h =
    let g =
    in_name_closes (λ n name cs q. Named q n name cs) (λ n name some. file_closes n name) [] 1 in
    record {
      closing = 91 ∷ g.closing;
      whole = g.whole;
      ascii = IsAscii-cons 91 g.closing (omega arith) g.ascii;
      goes = inr (g.closing, refl, g.goes);
    }
append_closes (append.InName name) at h =
    in_name_closes (λ n name cs q. Named q n name cs) (λ n name some. file_closes n name) name 0
append_closes (append.Closing name) at h =
    closing_closes (λ n name cs q. Named q n name cs) (λ n name some. file_closes n name) name 0
append_closes (append.Between cube) at h = file_closes 0 cube
append_closes (append.InFile cube file left) at h = record {
  closing = [];
  whole = record { cube = cube; file = file };
  ascii = IsAscii-nil;
  goes = (refl, (refl, refl));
}
append_closes (append.Behind cube file) at h = record {
  closing = [];
  whole = record { cube = cube; file = file };
  ascii = IsAscii-nil;
  goes = (refl, refl, refl);
}
