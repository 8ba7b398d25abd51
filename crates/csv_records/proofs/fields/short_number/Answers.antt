-- That `short_number` ensures what it says, keeps what holds at each turn and stays within its numbers.
use Rattle.std.proofs.Common.{◌<◌, length, arith}
use Rattle.std.proofs.lemmas.Bool.Decides.{nat_tests}
use Rattle.std.proofs.lemmas.Int.{ints, to_z_pos}
use Rattle.std.proofs.lemmas.Int.Digits.{digits_more}
use Rattle.std.specs.Int.{w64}
use Rattle.csv_records.proofs.NumberFacts.{small_so_far, one_more, all_digits}
use Rattle.csv_records.proofs.fields.short_number.Goals as goal

pub overflow_mul-value : goal.overflow_mul-value
overflow_mul-value c =
    let small = small_so_far c.args.field.now c.loop-byte.byte-index c.loop-byte.value (omega arith) c.loop-byte.invariant.digits c.loop-byte.invariant.spelled in
    omega arith

pub overflow_add-value : goal.overflow_add-value
overflow_add-value c =
    let small = small_so_far c.args.field.now c.loop-byte.byte-index c.loop-byte.value (omega arith) c.loop-byte.invariant.digits c.loop-byte.invariant.spelled in
    let fits = c.type_inv.field c.loop-byte.byte-index in
    omega arith

pub loop-byte-preserved : goal.loop-byte-preserved
loop-byte-preserved c = record {
  digits = digits_more 10 c.args.field.now c.loop-byte.byte-index c.loop-byte-test.true c.loop-byte.invariant.digits c.if-not-is_ascii_digit.ensures.bound;
  spelled = one_more c.args.field.now c.loop-byte.byte-index c.loop-byte.value c.from.result c.loop-byte-test.true c.if-not-is_ascii_digit.ensures.bound c.from.ensures c.loop-byte.invariant.spelled;
}

pub overflow_cast-result : goal.overflow_cast-result
overflow_cast-result c =
    let small = small_so_far c.args.field.now c.loop-byte.byte-index c.loop-byte.value (omega arith) c.loop-byte.invariant.digits c.loop-byte.invariant.spelled in
    omega (arith, ints)

pub returns : goal.returns
returns c =
    let small = small_so_far c.args.field.now c.loop-byte.byte-index c.loop-byte.value (omega arith) c.loop-byte.invariant.digits c.loop-byte.invariant.spelled in
    let some : 0 < length c.args.field.now = grind (arith, nat_tests, c.is_empty.ensures, c.if-is_empty.false) in
    let told = all_digits c.args.field.now c.loop-byte.byte-index (omega arith) c.loop-byte.invariant.digits some (omega arith) in
    rw (to_z_pos w64 c.loop-byte.value (omega arith), c.loop-byte.invariant.spelled) told
