-- Lists: what maps, filters and joins give where their functions agree at each element.
use Rattle.std.proofs.Common.{◌≡◌, refl, sym, ◌∙◌, ap, ℕ, zero, suc, ◌+◌, ◌≤◌, List, [], ◌∷◌, ◌++◌, length, take, Bool, true, false, cond, not, ◌||◌, filter, map, flat_map, arith, length-append}
use Rattle.std.specs.List.{AllByRecursion as Each, enumerate_from, position_or_len, list_any}
use Rattle.std.proofs.lemmas.List.{take-map}
use Rattle.std.proofs.lemmas.List.Elements.{filter-append}
use Rattle.std.proofs.lemmas.List.Folds.{flat_map-map}

pub Each-all : {X : Type 0} (P : X → Type 0) → ((x : X) → P x) → (xs : List X) → Each P xs
Each-all P h [] = tt
Each-all P h (x ∷ xs) = (h x, Each-all P h xs)

pub Each-weaker : {X : Type 0} (P Q : X → Type 0) → ((x : X) → P x → Q x) → (xs : List X) → Each P xs → Each Q xs
Each-weaker P Q h [] e = tt
Each-weaker P Q h (x ∷ xs) e = (h x e.0, Each-weaker P Q h xs e.1)

pub Each-filter : {X : Type 0} (P : X → Type 0) (p : X → Bool) (xs : List X) → Each P xs → Each P (filter p xs)
Each-filter P p [] e = tt
Each-filter {X} P p (x ∷ xs) e = by (p x) (Each-filter P p xs e.1)
  where
    by : (b : Bool) → Each P (filter p xs) → Each P (cond b (x ∷ filter p xs) (filter p xs))
    by true rest = (e.0, rest)
    by false rest = rest

pub Each-filter_passes : {X : Type 0} (p : X → Bool) (xs : List X) → Each (λ x. p x ≡ true) (filter p xs)
Each-filter_passes p [] = tt
Each-filter_passes {X} p (x ∷ xs) = by (p x) refl (Each-filter_passes p xs)
  where
    by : (b : Bool) → p x ≡ b → Each (λ y. p y ≡ true) (filter p xs) → Each (λ y. p y ≡ true) (cond b (x ∷ filter p xs) (filter p xs))
    by true e rest = (e, rest)
    by false e rest = rest

pub Each-append : {X : Type 0} (P : X → Type 0) (xs ys : List X) → Each P xs → Each P ys → Each P (xs ++ ys)
Each-append P [] ys e f = f
Each-append P (x ∷ xs) ys e f = (e.0, Each-append P xs ys e.1 f)

pub Each-flat_map : {X A : Type 0} (P : A → Type 0) (f : X → List A) (xs : List X) → Each (λ x. Each P (f x)) xs → Each P (flat_map f xs)
Each-flat_map P f [] e = tt
Each-flat_map P f (x ∷ xs) e = Each-append P (f x) (flat_map f xs) e.0 (Each-flat_map P f xs e.1)

pub Each-map : {X Y : Type 0} (P : Y → Type 0) (f : X → Y) (xs : List X) → Each (λ x. P (f x)) xs → Each P (map f xs)
Each-map P f [] e = tt
Each-map P f (x ∷ xs) e = (e.0, Each-map P f xs e.1)

pub Each-take : {X : Type 0} (P : X → Type 0) (i : ℕ) (xs : List X) → Each P xs → Each P (take i xs)
Each-take P zero xs e = tt
Each-take P (suc i) [] e = tt
Each-take P (suc i) (x ∷ xs) e = (e.0, Each-take P i xs e.1)

-- what holds of each element holds of each with its place
pub Each-enumerate : {X : Type 0} (P : X → Type 0) (a : ℕ) (xs : List X) → Each P xs → Each (λ e. P e.1) (enumerate_from a xs)
Each-enumerate P a [] e = tt
Each-enumerate P a (x ∷ xs) e = (e.0, Each-enumerate P (a + 1) xs e.1)

pub map_same : {X Y : Type 0} (f g : X → Y) (xs : List X) → Each (λ x. f x ≡ g x) xs → map f xs ≡ map g xs
map_same f g [] e = refl
map_same f g (x ∷ xs) e = ap (λ y. y ∷ map f xs) e.0 ∙ ap (λ ys. g x ∷ ys) (map_same f g xs e.1)

pub flat_map_same : {X A : Type 0} (f g : X → List A) (xs : List X) → Each (λ x. f x ≡ g x) xs → flat_map f xs ≡ flat_map g xs
flat_map_same f g [] e = refl
flat_map_same f g (x ∷ xs) e = ap (λ y. y ++ flat_map f xs) e.0 ∙ ap (λ ys. g x ++ ys) (flat_map_same f g xs e.1)

pub filter_all : {X : Type 0} (p : X → Bool) (xs : List X) → Each (λ x. p x ≡ true) xs → filter p xs ≡ xs
filter_all p [] e = refl
filter_all p (x ∷ xs) e = ap (λ b. cond b (x ∷ filter p xs) (filter p xs)) e.0 ∙ ap (λ ys. x ∷ ys) (filter_all p xs e.1)

pub filter_none : {X : Type 0} (p : X → Bool) (xs : List X) → Each (λ x. p x ≡ false) xs → filter p xs ≡ []
filter_none p [] e = refl
filter_none p (x ∷ xs) e = ap (λ b. cond b (x ∷ filter p xs) (filter p xs)) e.0 ∙ filter_none p xs e.1

-- leaving out what fails a test first changes nothing where the other test fails it too
pub filter_within : {X : Type 0} (p q : X → Bool) (xs : List X) → ((x : X) → q x ≡ false → p x ≡ false) → filter p (filter q xs) ≡ filter p xs
filter_within p q [] h = refl
filter_within {X} p q (x ∷ xs) h = by (q x) refl (filter_within p q xs h)
  where
    by : (b : Bool) → q x ≡ b → filter p (filter q xs) ≡ filter p xs → filter p (cond b (x ∷ filter q xs) (filter q xs)) ≡ cond (p x) (x ∷ filter p xs) (filter p xs)
    by true e rest = ap (λ ys. cond (p x) (x ∷ ys) ys) rest
    by false e rest = rest ∙ sym (ap (λ b. cond b (x ∷ filter p xs) (filter p xs)) (h x e))

pub enumerate-map : {X Y : Type 0} (f : X → Y) (a : ℕ) (xs : List X) → enumerate_from a (map f xs) ≡ map (λ e. (e.0, f e.1)) (enumerate_from a xs)
enumerate-map f a [] = refl
enumerate-map f a (x ∷ xs) = ap (λ ys. (a, f x) ∷ ys) (enumerate-map f (a + 1) xs)

pub flat_map-enumerate : {X A : Type 0} (f : X → List A) (a : ℕ) (xs : List X) → flat_map (λ e. f e.1) (enumerate_from a xs) ≡ flat_map f xs
flat_map-enumerate f a [] = refl
flat_map-enumerate f a (x ∷ xs) = ap (λ ys. f x ++ ys) (flat_map-enumerate f (a + 1) xs)

pub enumerate_push : {X : Type 0} (a : ℕ) (xs : List X) (y : X) → enumerate_from a (xs ++ y ∷ []) ≡ enumerate_from a xs ++ (a + length xs, y) ∷ []
enumerate_push a [] y = let e : a ≡ a + 0 = omega arith in ap (λ n. (n, y) ∷ []) e
enumerate_push a (x ∷ xs) y =
    let e : (a + 1) + length xs ≡ a + suc (length xs) = omega arith in
    ap (λ ys. (a, x) ∷ ys) (enumerate_push (a + 1) xs y ∙ ap (λ n. enumerate_from (a + 1) xs ++ (n, y) ∷ []) e)

pub length_flat_map_same : {X A B : Type 0} (f : X → List A) (g : X → List B) (xs : List X) → Each (λ x. length (f x) ≡ length (g x)) xs → length (flat_map f xs) ≡ length (flat_map g xs)
length_flat_map_same f g [] e = refl
length_flat_map_same f g (x ∷ xs) e =
    let h = length_flat_map_same f g xs e.1 in
    let l = e.0 in
    omega (arith, h, l, length-append (f x) (flat_map f xs), length-append (g x) (flat_map g xs))

-- joins of the same lengths up to a place, over two lists that two functions take to the same numbers
pub length_joined : {X Y A B : Type 0} (L : ℕ → List A) (M : Y → List B) (h : X → ℕ) (k : Y → ℕ) (xs : List X) (ys : List Y) → map h xs ≡ map k ys
    → Each (λ y. length (L (k y)) ≡ length (M y)) ys → (i : ℕ) → length (flat_map (λ x. L (h x)) (take i xs)) ≡ length (flat_map M (take i ys))
length_joined L M h k xs ys same sizes i =
    ap length (sym (flat_map-map L h (take i xs)) ∙ ap (flat_map L) (sym (take-map h i xs) ∙ ap (take i) same ∙ take-map k i ys) ∙ flat_map-map L k (take i ys))
    ∙ length_flat_map_same (λ y. L (k y)) M (take i ys) (Each-take (λ y. length (L (k y)) ≡ length (M y)) i ys sizes)

no_joined : {X A : Type 0} (T : A → Bool) (xs : List X) → length (filter T (flat_map (λ (x : X). let nothing : List A = [] in nothing) xs)) ≡ 0
no_joined T [] = refl
no_joined T (x ∷ xs) = no_joined T xs

joined_step : {X A : Type 0} (T : A → Bool) (a : A) (own more rest : List A) (x : X) (ys : List X) (b c : Bool) → T a ≡ c → length (filter T more) ≡ length (filter T rest) + cond c (length ys) 0
    → length (filter T (cond b (a ∷ own) own ++ more)) ≡ length (filter T (own ++ rest)) + cond c (length (cond b (x ∷ ys) ys)) 0
joined_step T a own more rest x ys true true e h =
    let f : length (filter T (a ∷ (own ++ more))) ≡ suc (length (filter T (own ++ more))) = ap (λ b. length (cond b (a ∷ filter T (own ++ more)) (filter T (own ++ more)))) e in
    let g : length (filter T (own ++ more)) ≡ length (filter T own) + length (filter T more) = ap length (filter-append T own more) ∙ length-append (filter T own) (filter T more) in
    let k : length (filter T (own ++ rest)) ≡ length (filter T own) + length (filter T rest) = ap length (filter-append T own rest) ∙ length-append (filter T own) (filter T rest) in
    omega (arith, f, g, k, h)
joined_step T a own more rest x ys true false e h =
    let f : length (filter T (a ∷ (own ++ more))) ≡ length (filter T (own ++ more)) = ap (λ b. length (cond b (a ∷ filter T (own ++ more)) (filter T (own ++ more)))) e in
    let g : length (filter T (own ++ more)) ≡ length (filter T own) + length (filter T more) = ap length (filter-append T own more) ∙ length-append (filter T own) (filter T more) in
    let k : length (filter T (own ++ rest)) ≡ length (filter T own) + length (filter T rest) = ap length (filter-append T own rest) ∙ length-append (filter T own) (filter T rest) in
    omega (arith, f, g, k, h)
joined_step T a own more rest x ys false c e h =
    let g : length (filter T (own ++ more)) ≡ length (filter T own) + length (filter T more) = ap length (filter-append T own more) ∙ length-append (filter T own) (filter T more) in
    let k : length (filter T (own ++ rest)) ≡ length (filter T own) + length (filter T rest) = ap length (filter-append T own rest) ∙ length-append (filter T own) (filter T rest) in
    omega (arith, g, k, h)

-- one element more is joined once for each list that takes it
joined_more : {X A : Type 0} (r : X → A → Bool) (T : A → Bool) (a : A) (as' : List A) (xs : List X)
    → length (filter T (flat_map (λ x. filter (r x) (a ∷ as')) xs)) ≡ length (filter T (flat_map (λ x. filter (r x) as') xs)) + cond (T a) (length (filter (λ x. r x a) xs)) 0
joined_more r T a as' [] = by (T a)
  where
    by : (b : Bool) → 0 ≡ 0 + cond b 0 0
    by true = omega arith
    by false = omega arith
joined_more r T a as' (x ∷ xs) =
    joined_step T a (filter (r x) as') (flat_map (λ y. filter (r y) (a ∷ as')) xs) (flat_map (λ y. filter (r y) as') xs) x (filter (λ y. r y a) xs) (r x a) (T a) refl (joined_more r T a as' xs)

-- where at most one list takes each element, no more are joined than there are
pub joined_once : {X A : Type 0} (r : X → A → Bool) (T : A → Bool) (xs : List X) (as' : List A)
    → ((a : A) → length (filter (λ x. r x a) xs) ≤ 1) → length (filter T (flat_map (λ x. filter (r x) as') xs)) ≤ length (filter T as')
joined_once r T xs [] once = let h = no_joined T xs in omega (arith, h)
joined_once {X} {A} r T xs (a ∷ as') once = by (T a) (joined_more r T a as' xs) (joined_once r T xs as' once) (once a)
  where
    by : (b : Bool) → length (filter T (flat_map (λ x. filter (r x) (a ∷ as')) xs)) ≡ length (filter T (flat_map (λ x. filter (r x) as') xs)) + cond b (length (filter (λ x. r x a) xs)) 0
        → length (filter T (flat_map (λ x. filter (r x) as') xs)) ≤ length (filter T as') → length (filter (λ x. r x a) xs) ≤ 1
        → length (filter T (flat_map (λ x. filter (r x) (a ∷ as')) xs)) ≤ length (cond b (a ∷ filter T as') (filter T as'))
    by true e h o = omega (arith, e, h, o)
    by false e h o = omega (arith, e, h)

pub position_same : {X Y : Type 0} (p : X → Bool) (q : Y → Bool) (f : X → Y) (xs : List X) → Each (λ x. q (f x) ≡ p x) xs → position_or_len q (map f xs) ≡ position_or_len p xs
position_same p q f [] e = refl
position_same p q f (x ∷ xs) e = ap (λ b. cond (not b) (1 + position_or_len q (map f xs)) 0) e.0 ∙ ap (λ n. cond (not (p x)) (1 + n) 0) (position_same p q f xs e.1)

pub any_same : {X Y : Type 0} (p : X → Bool) (q : Y → Bool) (f : X → Y) (xs : List X) → Each (λ x. q (f x) ≡ p x) xs → list_any q (map f xs) ≡ list_any p xs
any_same p q f [] e = refl
any_same p q f (x ∷ xs) e = ap (λ b. b || list_any q (map f xs)) e.0 ∙ ap (λ b. p x || b) (any_same p q f xs e.1)

-- an item that is among others is found at the same place with one more at the end
pub position_kept : {X : Type 0} (p : X → Bool) (xs ys : List X) → list_any p xs ≡ true → position_or_len p (xs ++ ys) ≡ position_or_len p xs
position_kept p [] ys found = absurd (cc (found))
position_kept {X} p (x ∷ xs) ys found = by (p x) found (position_kept p xs ys)
  where
    by : (b : Bool) → (b || list_any p xs) ≡ true → (list_any p xs ≡ true → position_or_len p (xs ++ ys) ≡ position_or_len p xs) → cond (not b) (1 + position_or_len p (xs ++ ys)) 0 ≡ cond (not b) (1 + position_or_len p xs) 0
    by true f h = refl
    by false f h = ap (λ n. 1 + n) (h f)
