-- The items of a row in columns that all have as many.
use Rattle.std.proofs.Common.{◌≡◌, ◌<◌, ◌+◌, ℕ, zero, suc, List, [], ◌∷◌, ◌++◌, Some, All, map, length, take, drop, set, get_or, slice_get, option_and_then, refl, sym, ap, arith}
use Rattle.std.proofs.lemmas.List.Elements.{All-cons, All-nil, All-tail}
use Rattle.olap_meaning.proofs.Lists.{item_there, take_whole}
use Rattle.olap_meaning.proofs.Growing.{get-append-le}
use Rattle.fact_versions.specs.Columns.{items_at, with_row}

-- the first column of those that all have as many items
head_length : {A : Type 0} (n : ℕ) (c : List A) (cs : List (List A)) → All (λ column. length column ≡ n) (c ∷ cs) → length c ≡ n
head_length n c cs even = even 0 c (omega arith)

pub slice_get-append_last : {A : Type 0} (xs : List A) (x : A) (n : ℕ) → n ≡ length xs → slice_get (xs ++ x ∷ []) n ≡ Some x
slice_get-append_last [] x n is = rw is refl
slice_get-append_last (y ∷ ys) x n is = rw is (slice_get-append_last ys x (length ys) refl)

take-append_length : {A : Type 0} (xs ys : List A) → take (length xs) (xs ++ ys) ≡ xs
take-append_length [] ys = refl
take-append_length (x ∷ xs) ys = ap (λ (zs : List _). x ∷ zs) (take-append_length xs ys)

-- a row above the last item is as it was
pub items_at-with_row : {A : Type 0} (i n : ℕ) (cs : List (List A)) (xs : List A) → All (λ column. length column ≡ n) cs → i < n → items_at i (with_row cs xs) ≡ items_at i cs
items_at-with_row i n cs [] even below = refl
items_at-with_row i n [] (x ∷ xs) even below = refl
items_at-with_row i n (c ∷ cs) (x ∷ xs) even below =
    let head = head_length n c cs even in
    rw (get-append-le c (x ∷ []) i (omega arith), items_at-with_row i n cs xs (All-tail (λ column. length column ≡ n) c cs even) below) refl

-- the row that was added
pub items_at-with_row_last : {A : Type 0} (n : ℕ) (cs : List (List A)) (xs : List A) → All (λ column. length column ≡ n) cs → length xs ≡ length cs → items_at n (with_row cs xs) ≡ xs
items_at-with_row_last n [] [] even same = refl
items_at-with_row_last n [] (x ∷ xs) even same = absurd (omega arith)
items_at-with_row_last n (c ∷ cs) [] even same = absurd (omega arith)
items_at-with_row_last n (c ∷ cs) (x ∷ xs) even same =
    let head = head_length n c cs even in
    rw (slice_get-append_last c x n (sym head), items_at-with_row_last n cs xs (All-tail (λ column. length column ≡ n) c cs even) (omega arith)) refl

-- a row has an item of each column
pub length-items_at : {A : Type 0} (i n : ℕ) (cs : List (List A)) → All (λ column. length column ≡ n) cs → i < n → length (items_at i cs) ≡ length cs
length-items_at i n [] even below = refl
length-items_at i n (c ∷ cs) even below =
    let head = head_length n c cs even in
    let item = item_there c i (omega arith) in
    rw (item.1, length-items_at i n cs (All-tail (λ column. length column ≡ n) c cs even) below) refl

-- an item of a row is that of its column
pub slice_get-items_at : {A : Type 0} (i n d : ℕ) (cs : List (List A)) → All (λ column. length column ≡ n) cs → i < n → slice_get (items_at i cs) d ≡ option_and_then (λ column. slice_get column i) (slice_get cs d)
slice_get-items_at i n d [] even below = refl
slice_get-items_at i n zero (c ∷ cs) even below =
    let head = head_length n c cs even in
    let item = item_there c i (omega arith) in
    rw item.1 refl
slice_get-items_at i n (suc d) (c ∷ cs) even below =
    let head = head_length n c cs even in
    let item = item_there c i (omega arith) in
    rw item.1 (slice_get-items_at i n d cs (All-tail (λ column. length column ≡ n) c cs even) below)

pub length-with_row : {A : Type 0} (cs : List (List A)) (xs : List A) → length (with_row cs xs) ≡ length cs
length-with_row cs [] = refl
length-with_row [] (x ∷ xs) = refl
length-with_row (c ∷ cs) (x ∷ xs) = ap (λ (n : ℕ). suc n) (length-with_row cs xs)

length-more : {A : Type 0} (c : List A) (x : A) → length (c ++ x ∷ []) ≡ length c + 1
length-more [] x = refl
length-more (y ∷ c) x = omega (arith, length-more c x)

-- with an item for each, all columns have as many again
pub even-with_row : {A : Type 0} (n : ℕ) (cs : List (List A)) (xs : List A) → All (λ column. length column ≡ n) cs → length xs ≡ length cs → All (λ column. length column ≡ n + 1) (with_row cs xs)
even-with_row n [] [] even same = All-nil (λ column. length column ≡ n + 1)
even-with_row n [] (x ∷ xs) even same = absurd (omega arith)
even-with_row n (c ∷ cs) [] even same = absurd (omega arith)
even-with_row n (c ∷ cs) (x ∷ xs) even same =
    let head = head_length n c cs even in
    All-cons (λ column. length column ≡ n + 1) (c ++ x ∷ []) (with_row cs xs) (omega (arith, length-more c x)) (even-with_row n cs xs (All-tail (λ column. length column ≡ n) c cs even) (omega arith))

cut-even : {A : Type 0} (n : ℕ) (cs : List (List A)) → All (λ column. length column ≡ n) cs → map (λ column. take n column) cs ≡ cs
cut-even n [] even = refl
cut-even n (c ∷ cs) even =
    let head = head_length n c cs even in
    let same : take n c ≡ c = rw (← head) (take_whole c) in
    rw (same, cut-even n cs (All-tail (λ column. length column ≡ n) c cs even)) refl

-- cut back, the columns are as they were
pub cut-with_row : {A : Type 0} (n : ℕ) (cs : List (List A)) (xs : List A) → All (λ column. length column ≡ n) cs → map (λ column. take n column) (with_row cs xs) ≡ cs
cut-with_row n cs [] even = cut-even n cs even
cut-with_row n [] (x ∷ xs) even = refl
cut-with_row n (c ∷ cs) (x ∷ xs) even =
    let head = head_length n c cs even in
    let same : take n (c ++ x ∷ []) ≡ c = rw (← head) (take-append_length c (x ∷ [])) in
    rw (same, cut-with_row n cs xs (All-tail (λ column. length column ≡ n) c cs even)) refl

-- the column at a place is the next to get its item
pub set-with_row : {A : Type 0} (cs : List (List A)) (xs : List A) (i : ℕ) (c : List A) (x : A) → i < length cs → i < length xs → c ≡ get_or (with_row cs (take i xs)) i c → x ≡ get_or xs i x → set (with_row cs (take i xs)) i (c ++ x ∷ []) ≡ with_row cs (take (suc i) xs)
set-with_row [] xs i c x in_columns in_items c_is x_is = absurd (omega arith)
set-with_row (d ∷ ds) [] i c x in_columns in_items c_is x_is = absurd (omega arith)
set-with_row (d ∷ ds) (y ∷ ys) zero c x in_columns in_items c_is x_is = rw (c_is, x_is) refl
set-with_row (d ∷ ds) (y ∷ ys) (suc i) c x in_columns in_items c_is x_is =
    ap (λ (es : List (List _)). (d ++ y ∷ []) ∷ es) (set-with_row ds ys i c x (omega arith) (omega arith) c_is x_is)

-- the item at a place is the next to change
pub set-mapped : {A : Type 0} (f : A → A) (xs : List A) (i : ℕ) (x : A) → i < length xs → x ≡ get_or (map f (take i xs) ++ drop i xs) i x → set (map f (take i xs) ++ drop i xs) i (f x) ≡ map f (take (suc i) xs) ++ drop (suc i) xs
set-mapped f [] i x in_items x_is = absurd (omega arith)
set-mapped f (y ∷ ys) zero x in_items x_is = rw x_is refl
set-mapped f (y ∷ ys) (suc i) x in_items x_is = ap (λ (zs : List _). f y ∷ zs) (set-mapped f ys i x (omega arith) x_is)
