-- That `read` ensures what it says, from what each step and the end of a form say.
use Rattle.std.proofs.Common.{◌≡◌, ℕ, List, [], ◌∷◌, ◌++◌, ◌+◌, ◌≤◌, length, map, drop, sym, ap, subst, ◌∙◌, arith, Option, IfSome}
use Rattle.std.specs.Prelude.{option_map}
use Rattle.std.specs.Char.{len_utf8}
use Rattle.std.specs.Str.{chars}
use Rattle.std.proofs.lemmas.List.{map-id}
use Rattle.std.proofs.lemmas.Iterator.{YieldsList-from_chars}
use Rattle.std.proofs.lemmas.Iterator.Consumers.{YieldsList-turn, YieldsList-end, YieldsList-so_far}
use Rattle.text_forms.specs.Forms.{Steps, Finishes, IsSoFar}
use Rattle.text_forms.proofs.Reading.{one, place_on, place_within, begins_within, further, stops, ends, ends_early}
use Rattle.text_forms.proofs.read.Goals as goal

-- a list that is equal to itself, item by item
same_list : (xs : List ℕ) {ys : List ℕ} → map (λ x. x) xs ≡ ys → xs ≡ ys
same_list xs e = sym (map-id xs) ∙ e

pub returns-in-Ok-None : goal.returns-in-Ok-None
returns-in-Ok-None g c =
    let rest = g.F.Form.rest in
    let all = chars c.args.text.now in
    let l = c.loop-c in
    let y = YieldsList-from_chars c.args.text.now c.utf8.text cc in
    let t = YieldsList-turn y l.yielded _ l.yielded_by _ _ c.in-Some.c c.in-Some.is c.next.ensures.steps in
    let f = same_list l.yielded (YieldsList-so_far y l.yielded _ l.yielded_by) in
    let s = subst (λ (x : Option g.row.F.Denot). Steps rest l.form l.byte c.in-Some.c x) c.in-Ok-None.field-0-is c.in-Ok-None.ensures.steps in
    stops (rest c.args.form) (rest l.form) c.args.text.now l.yielded l.byte c.in-Some.c (drop (length l.yielded + 1) all) c.utf8.text (one all l.yielded c.in-Some.c t f) l.invariant.place l.invariant.far (g.met.F.Form.closes l.form l.byte l.invariant.kept) s

pub step-requires-clause-place : goal.step-requires-clause-place
step-requires-clause-place g c =
    let all = chars c.args.text.now in
    let l = c.loop-c in
    let y = YieldsList-from_chars c.args.text.now c.utf8.text cc in
    let t = YieldsList-turn y l.yielded _ l.yielded_by _ _ c.in-Some.c c.in-Some.is c.next.ensures.steps in
    let f = same_list l.yielded (YieldsList-so_far y l.yielded _ l.yielded_by) in
    c.requires.places l.byte (begins_within c.args.text.now l.yielded c.in-Some.c (drop (length l.yielded + 1) all) l.byte c.utf8.text (one all l.yielded c.in-Some.c t f) l.invariant.place)

pub overflow_add-byte : goal.overflow_add-byte
overflow_add-byte g c =
    let l = c.loop-c in
    let within : l.byte + len_utf8 c.in-Some.c ≤ length c.args.text.now = (
    let all = chars c.args.text.now in
    let y = YieldsList-from_chars c.args.text.now c.utf8.text cc in
    let t = YieldsList-turn y l.yielded _ l.yielded_by _ _ c.in-Some.c c.in-Some.is c.next.ensures.steps in
    let f = same_list l.yielded (YieldsList-so_far y l.yielded _ l.yielded_by) in
    place_within c.args.text.now l.yielded c.in-Some.c (drop (length l.yielded + 1) all) l.byte c.utf8.text (one all l.yielded c.in-Some.c t f) l.invariant.place
    ) in
    let size = c.len_utf8-byte.ensures.value in
    omega (arith, within, size)

pub loop-c-preserved : goal.loop-c-preserved
loop-c-preserved g c =
    let rest = g.F.Form.rest in
    let l = c.loop-c in
    let s = subst (λ (x : Option g.row.F.Denot). Steps rest l.form l.byte c.in-Some.c x) c.in-Ok-Some.field-0-is c.in-Ok-Some.ensures.steps in
    let next = c.in-Ok-Some.next in
    let same = c.len_utf8-byte.ensures.value in
    record {
      far = subst (λ n. IsSoFar (rest c.args.form) (l.yielded ++ c.in-Some.c ∷ []) (rest next (l.byte + n))) (sym same) (further (rest c.args.form) (rest l.form) (rest next) l.yielded l.byte c.in-Some.c l.invariant.far s);
      place = ap (λ n. l.byte + n) same ∙ place_on l.yielded l.byte c.in-Some.c l.invariant.place;
      kept = subst (λ (x : Option g.row.F.Denot). IfSome x g.F.Form.stands) c.in-Ok-Some.field-0-is c.in-Ok-Some.ensures.kept;
    }

pub returns-in-Ok-Some-finish : goal.returns-in-Ok-Some-finish
returns-in-Ok-Some-finish g c =
    let rest = g.F.Form.rest in
    let l = c.loop-c in
    let y = YieldsList-from_chars c.args.text.now c.utf8.text cc in
    let t = YieldsList-end y l.yielded _ l.yielded_by _ _ c.in-None.is c.next.ensures.steps in
    let s = subst (λ (x : Option g.row.F-Value.Denot). Finishes (rest l.form l.byte) (option_map g.F.Form.meaning x)) c.in-Ok-Some-finish.field-0-is (c.in-Ok-Some-finish.ensures.finishes l.byte) in
    ends (rest c.args.form) (rest l.form l.byte) c.args.text.now l.yielded (g.F.Form.meaning c.in-Ok-Some-finish.value) c.utf8.text (same_list l.yielded t.0) l.invariant.far s

pub returns-in-Ok-None-finish : goal.returns-in-Ok-None-finish
returns-in-Ok-None-finish g c =
    let rest = g.F.Form.rest in
    let l = c.loop-c in
    let y = YieldsList-from_chars c.args.text.now c.utf8.text cc in
    let t = YieldsList-end y l.yielded _ l.yielded_by _ _ c.in-None.is c.next.ensures.steps in
    let s = subst (λ (x : Option g.row.F-Value.Denot). Finishes (rest l.form l.byte) (option_map g.F.Form.meaning x)) c.in-Ok-None-finish.field-0-is (c.in-Ok-None-finish.ensures.finishes l.byte) in
    ends_early (rest c.args.form) (rest l.form l.byte) c.args.text.now l.yielded l.byte c.utf8.text (same_list l.yielded t.0) l.invariant.place l.invariant.far (g.met.F.Form.closes l.form l.byte l.invariant.kept) s
