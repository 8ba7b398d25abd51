-- That `argument_of` may call `range_from`.
use Rattle.std.proofs.Common.{ℕ, List, sym, subst}
use Rattle.std.specs.Str.{IsCharBoundary, IsUtf8}
use Rattle.input_lines.proofs.Words.{boundary}
use Rattle.input_lines.proofs.argument.argument_of.Goals as goal

pub range_from-requires : goal.range_from-requires
range_from-requires c some =
    subst (λ (line : List ℕ). IsCharBoundary line c.in-Some.start) c.as_bytes-2.ensures.value
    (boundary c.as_bytes-2.result.now c.in-Some.start (subst IsUtf8 (sym c.as_bytes-2.ensures.value) c.utf8.line) c.in-Some.ensures.within c.in-Some.ensures.behind)
