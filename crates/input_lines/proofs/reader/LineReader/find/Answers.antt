-- That `find` ensures `heard` and keeps what holds at each turn.
use Rattle.std.proofs.Common.{arith, subst, sym, ◌∙◌, List, ℕ, ◌≡◌, ◌<◌, ◌≤◌, ◌++◌, length, take, ap, false}
use Rattle.std.proofs.lemmas.Result.{err_from_is_err_and}
use Rattle.input_lines.specs.Reader.{IsFound, Reading, line_length}
use Rattle.input_lines.specs.declared.next.Found.TheVariants as found
use Rattle.input_lines.proofs.LineLemmas.{line_length-more}
use Rattle.input_lines.proofs.Hearing.{ends_now, fails_now, finds_now, found_now, more_so_far, needs_more, needs_something, over_now, spent_now}
use Rattle.input_lines.proofs.Receiving.{HoldsSame-then, open-received}
use Rattle.input_lines.proofs.reader.LineReader.find.Goals as goal

pub returns-in_default : goal.returns-in_default
returns-in_default g c =
    let seen : IsFound c.look.result c.loop-found.self.held = subst (λ (held : List ℕ). IsFound c.look.result held) c.held.ensures.value c.look.ensures in
    record {
      found = finds_now c.look.result c.loop-found.self c.in_default.not-Neither seen;
      heard = found_now _ _ _ _ c.look.result c.loop-found.invariant.so_far c.in_default.not-Neither seen;
      end = c.loop-found.invariant.end;
      same = c.loop-found.invariant.same;
      unasked = λ nothing. (c.loop-found.invariant.unasked nothing).1;
      line = c.loop-found.invariant.line;
      bound = c.held.ensures.bound;
    }

pub returns-then-is_spent-clause-heard : goal.returns-then-is_spent-clause-heard
returns-then-is_spent-clause-heard g c =
    let seen : IsFound found.Neither c.loop-found.self.held = subst (λ (held : List ℕ). IsFound found.Neither held) c.held.ensures.value c.in-Neither.ensures in
    spent_now _ _ _ _ c.loop-found.invariant.so_far (needs_more _ seen) (c.is_spent.ensures.some c.if-is_spent.true).0

pub returns-then-self-clause-heard : goal.returns-then-self-clause-heard
returns-then-self-clause-heard g c =
    let seen : IsFound found.Neither c.loop-found.self.held = subst (λ (held : List ℕ). IsFound found.Neither held) c.held.ensures.value c.in-Neither.ensures in
    over_now _ _ _ _ c.loop-found.invariant.so_far (needs_more _ seen) (c.is_spent.ensures.none c.if-is_spent.false) (sym (ap (λ (r : Reading). r.ended) c.self.view_is) ∙ c.if-self.true)

pub returns-in_err-fill-clause-heard : goal.returns-in_err-fill-clause-heard
returns-in_err-fill-clause-heard g c =
    let seen : IsFound found.Neither c.loop-found.self.held = subst (λ (held : List ℕ). IsFound found.Neither held) c.held.ensures.value c.in-Neither.ensures in
    let p = err_from_is_err_and c.from_residual.result c.from_residual.ensures.1 in rw p.1
    (fails_now _ _ _ _ _ _ c.loop-found.invariant.so_far (c.is_spent.ensures.none c.if-is_spent.false, sym (ap (λ (r : Reading). r.ended) c.self.view_is) ∙ c.if-self.false) (needs_more _ seen) c.in_err-fill.ensures.failed c.in_err-fill.ensures.kept)

pub returns-then-branch-eq0-clause-heard : goal.returns-then-branch-eq0-clause-heard
returns-then-branch-eq0-clause-heard g c =
    let seen : IsFound found.Neither c.loop-found.self.held = subst (λ (held : List ℕ). IsFound found.Neither held) c.held.ensures.value c.in-Neither.ensures in
    ends_now _ _ _ _ _ _ _ _ _ c.loop-found.invariant.so_far (c.is_spent.ensures.none c.if-is_spent.false, sym (ap (λ (r : Reading). r.ended) c.self.view_is) ∙ c.if-self.false) (needs_more _ seen) c.in_ok-fill.ensures.received c.if-branch-eq0.true

pub loop-found-preserved : goal.loop-found-preserved
loop-found-preserved g c =
    let seen : IsFound found.Neither c.loop-found.self.held = subst (λ (held : List ℕ). IsFound found.Neither held) c.held.ensures.value c.in-Neither.ensures in
    let none = c.is_spent.ensures.none c.if-is_spent.false in
    let some : 0 < c.in_ok-fill.field-0 = omega (arith, c.if-branch-eq0.false) in
    let has = c.in_ok-fill.ensures.received in
    let size : length c.held-looked.result.now ≡ length c.loop-found.self.held = ap length c.held-looked.ensures.value in
    let clear : length c.loop-found.self.held ≤ line_length (c.loop-found.self.held ++ take c.loop-found.self.room has.bytes) = line_length-more c.loop-found.self.held (take c.loop-found.self.room has.bytes) seen.0 in
    let now : line_length c.fill.new.self.held ≡ line_length (c.loop-found.self.held ++ take c.loop-found.self.room has.bytes) = ap (λ (r : Reading). line_length r.held) has.now in
    let going : c.fill.new.self.ended ≡ false = open-received _ _ _ _ _ _ _ has some in
    record {
      looked = omega arith;
      line = ap (λ (r : Reading). r.line) has.now ∙ c.loop-found.invariant.line;
      same = HoldsSame-then _ _ _ _ _ _ _ _ _ none c.loop-found.invariant.same has;
      unasked = λ nothing. absurd (needs_something _ _ (λ still. (c.loop-found.invariant.unasked still).0) (needs_more _ seen) none nothing);
      so_far = more_so_far _ _ _ _ _ _ _ _ _ c.loop-found.invariant.so_far (none, sym (ap (λ (r : Reading). r.ended) c.self.view_is) ∙ c.if-self.false) (needs_more _ seen) has some;
      end = λ before over. absurd (cc (going, over));
    }
