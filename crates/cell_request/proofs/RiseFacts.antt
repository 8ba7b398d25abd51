-- Numbers that rise.
use Rattle.std.proofs.Common.{◌≡◌, ◌∙◌, ◌++◌, ℕ, true, List, [], ◌∷◌, sym, ap, drop, nat_lt, append_assoc}
use Rattle.std.specs.List.{list_all}
use Rattle.std.proofs.lemmas.Bool.{and_from, and_parts}
use Rattle.std.proofs.lemmas.List.{take-append-drop}
use Rattle.std.proofs.lemmas.List.Folds.{list_all-append}
use Rattle.olap_meaning.specs.Legal.{rise}
use Rattle.olap_meaning.proofs.Orders.{rise_rest}
use Rattle.cell_request.specs.Boxes.{IsFront}

-- numbers that rise still do without some in the middle
pub cut : (xs ys zs : List ℕ) → rise (xs ++ (ys ++ zs)) ≡ true → rise (xs ++ zs) ≡ true
cut [] ys zs up = rise_rest ys zs up
cut (x ∷ xs) ys zs up =
    let parts = and_parts (list_all (nat_lt x) (xs ++ (ys ++ zs))) (rise (xs ++ (ys ++ zs))) up in
    let all = and_parts (list_all (nat_lt x) xs) (list_all (nat_lt x) (ys ++ zs)) (sym (list_all-append (nat_lt x) xs (ys ++ zs)) ∙ parts.0) in
    let later = and_parts (list_all (nat_lt x) ys) (list_all (nat_lt x) zs) (sym (list_all-append (nat_lt x) ys zs) ∙ all.1) in
    and_from _ _ (list_all-append (nat_lt x) xs zs ∙ and_from _ _ all.0 later.1) (cut xs ys zs parts.1)

-- and with the first of some in place of these
pub rise_front : (columns front levels rest : List ℕ) → IsFront front levels → rise (columns ++ (levels ++ rest)) ≡ true → rise ((columns ++ front) ++ rest) ≡ true
rise_front columns front levels rest is up =
    let split : (columns ++ front) ++ (drop is.0 levels ++ rest) ≡ columns ++ (levels ++ rest) =
    append_assoc columns front (drop is.0 levels ++ rest)
    ∙ ap (λ xs. columns ++ xs) (sym (append_assoc front (drop is.0 levels) rest) ∙ ap (λ xs. xs ++ rest) (ap (λ f. f ++ drop is.0 levels) is.1 ∙ take-append-drop is.0 levels)) in
    cut (columns ++ front) (drop is.0 levels) rest (ap rise split ∙ up)
