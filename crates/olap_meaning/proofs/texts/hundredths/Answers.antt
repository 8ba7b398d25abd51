-- That `hundredths` ensures what it says.
use Rattle.std.proofs.Common.{◌≡◌, ◌++◌, ◌/◌, ◌%◌, ℕ, List, string_bytes, ◌∙◌, ap, append_assoc, codes}
use Rattle.std.specs.Fmt.{decimal}
use Rattle.std.specs.Int.{w128}
use Rattle.std.specs.Int.RustNames.{unsigned_abs}
use Rattle.std.proofs.lemmas.Result.{IfOk-weaker}
use Rattle.std.proofs.lemmas.Int.{to_z-of_z}
use Rattle.olap_meaning.specs.Texts.{sign}
use Rattle.olap_meaning.proofs.texts.hundredths.Goals as goal

-- the pieces of the format, put together as the definition has them
pieces : (text before : List ℕ) (size : ℕ) → text ≡ before ++ (decimal (size / 100) ++ (codes "." ++ (decimal (size % 100 / 10) ++ decimal (size % 100 % 10))))
    → text ≡ before ++ decimal (size / 100) ++ codes "." ++ (decimal (size % 100 / 10) ++ decimal (size % 100 % 10))
pieces text before size e = simp append_assoc e

pub returns : goal.returns
returns c =
    let size = c.unsigned_abs-size.result in
    let own = to_z-of_z w128 c.args.number c.ranges.number in
    let before : c.sign-sign.result.now ≡ sign c.args.number = c.sign-sign.ensures ∙ ap sign own in
    let whole : size ≡ unsigned_abs c.args.number = c.unsigned_abs-size.ensures.value ∙ ap unsigned_abs own in
    rw (← before, ← whole) (IfOk-weaker c.format.result _ _ (λ t h. pieces (string_bytes t) c.sign-sign.result.now size h) c.format.ensures.ok)
