-- That `give` ensures `says`, `told` and `no_lf`.
use Rattle.std.proofs.Common.{arith, ap, ◌<◌, ◌≤◌, subst, sym, length, List, ℕ, ◌≡◌}
use Rattle.std.specs.Prelude.{All}
use Rattle.std.proofs.lemmas.Bool.Decides.{nat_tests}
use Rattle.input_lines.specs.Reader.{Finds, line_length}
use Rattle.input_lines.specs.declared.next.Found.{Found}
use Rattle.input_lines.specs.declared.next.Found.TheVariants as found
use Rattle.input_lines.proofs.LineLemmas.{no_lf-take, no_lf-all, no_lf-without_cr}
use Rattle.input_lines.proofs.Tells.{keeps_all, says-last, says-line, says-too_many, says_as, told-last, told-line, told-spent, told-too_many}
use Rattle.input_lines.proofs.reader.LineReader.give.Goals as goal

pub returns-in-Lf-clause-says : goal.returns-in-Lf-clause-says
returns-in-Lf-clause-says c =
    let seen : Finds (found.Lf c.in-Lf.size) c.args.self.now = subst (λ (f : Found). Finds f c.args.self.now) c.in-Lf.is c.requires.found in
    says_as _ _ _ _ _ c.in-Lf.is (says-line c.args.self.now c.give_line.new.self c.in-Lf.size seen c.give_line.ensures.line c.give_line.ensures.held c.give_line.ensures.rest)

pub returns-in-Lf-clause-told : goal.returns-in-Lf-clause-told
returns-in-Lf-clause-told c = λ rest last.
    let seen : Finds (found.Lf c.in-Lf.size) c.args.self.now = subst (λ (f : Found). Finds f c.args.self.now) c.in-Lf.is c.requires.found in
    told-line c.args.self.now c.give_line.new.self rest c.in-Lf.size seen c.give_line.ensures.line c.give_line.ensures.held c.give_line.ensures.rest

pub returns-in-Lf-clause-no_lf : goal.returns-in-Lf-clause-no_lf
returns-in-Lf-clause-no_lf c =
    let seen : Finds (found.Lf c.in-Lf.size) c.args.self.now = subst (λ (f : Found). Finds f c.args.self.now) c.in-Lf.is c.requires.found in
    let before : c.in-Lf.size ≤ line_length c.args.self.now.held = omega (arith, seen.0) in
    subst (λ (line : List ℕ). All (λ b. b ≡ 10 → ⊥) line) (sym c.give_line.ensures.line) (no_lf-without_cr _ (no_lf-take c.args.self.now.held c.in-Lf.size before))

pub returns-in-TooLong-clause-says : goal.returns-in-TooLong-clause-says
returns-in-TooLong-clause-says c =
    let seen : Finds found.TooLong c.args.self.now = subst (λ (f : Found). Finds f c.args.self.now) c.in-TooLong.is c.requires.found in
    says_as _ _ _ _ _ c.in-TooLong.is (says-too_many c.args.self.now.held seen, keeps_all c.args.self.now c.requires.line)

pub returns-in-TooLong-clause-told : goal.returns-in-TooLong-clause-told
returns-in-TooLong-clause-told c = λ rest last.
    let seen : Finds found.TooLong c.args.self.now = subst (λ (f : Found). Finds f c.args.self.now) c.in-TooLong.is c.requires.found in
    told-too_many c.args.self.now rest seen

pub returns-in-Spent-clause-told : goal.returns-in-Spent-clause-told
returns-in-Spent-clause-told c = λ rest last.
    told-spent c.args.self.now rest (subst (λ (f : Found). Finds f c.args.self.now) c.in-Spent.is c.requires.found)

pub returns-in-Neither-2-clause-says : goal.returns-in-Neither-2-clause-says
returns-in-Neither-2-clause-says c =
    let seen : Finds found.Neither c.args.self.now = subst (λ (f : Found). Finds f c.args.self.now) c.in-Neither-2.is c.requires.found in
    let size : length c.held.result.now ≡ length c.args.self.now.held = ap length c.held.ensures.value in
    let some : 0 < length c.args.self.now.held = grind (arith, nat_tests) in
    says_as _ _ _ _ _ c.in-Neither-2.is (says-last c.args.self.now c.give_all.new.self seen some c.give_all.ensures.line c.give_all.ensures.held c.give_all.ensures.rest)

pub returns-in-Neither-2-clause-told : goal.returns-in-Neither-2-clause-told
returns-in-Neither-2-clause-told c = λ rest last.
    let seen : Finds found.Neither c.args.self.now = subst (λ (f : Found). Finds f c.args.self.now) c.in-Neither-2.is c.requires.found in
    let size : length c.held.result.now ≡ length c.args.self.now.held = ap length c.held.ensures.value in
    let some : 0 < length c.args.self.now.held = grind (arith, nat_tests) in
    told-last c.args.self.now c.give_all.new.self rest seen some (last seen.2) c.give_all.ensures.line c.give_all.ensures.held c.give_all.ensures.rest

pub returns-in-Neither-2-clause-no_lf : goal.returns-in-Neither-2-clause-no_lf
returns-in-Neither-2-clause-no_lf c =
    let seen : Finds found.Neither c.args.self.now = subst (λ (f : Found). Finds f c.args.self.now) c.in-Neither-2.is c.requires.found in
    subst (λ (line : List ℕ). All (λ b. b ≡ 10 → ⊥) line) (sym c.give_all.ensures.line) (no_lf-all c.args.self.now.held seen.0.0)
