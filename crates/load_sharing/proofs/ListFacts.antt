-- Lists through a map: what is found in them, and what a change of one element is.
use Rattle.std.proofs.Common.{◌≡◌, ◌<◌, ◌≤◌, ◌++◌, ℕ, zero, suc, Bool, List, [], ◌∷◌, refl, sym, ap, arith, map, length, take, drop, set, get_or, append-nil, drop_of_length-le, take_all, ◌∙◌}
use Rattle.std.specs.List.{list_any}
use Rattle.std.proofs.lemmas.List.{length-map}
pub use Rattle.olap_meaning.proofs.Lists.{find-map as find_map}

module _ {X Y : Type 0} where
  pub any_mapped : (p : Y → Bool) (f : X → Y) (xs : List X) → list_any p (map f xs) ≡ list_any (λ x. p (f x)) xs
  any_mapped p f [] = refl
  any_mapped p f (x ∷ xs) = rw (any_mapped p f xs) refl

  -- an element is put where one that is seen alike stood
  pub set_same : (f : X → Y) (xs : List X) (k : ℕ) (d new : X) → k < length xs → f new ≡ f (get_or xs k d) → map f (set xs k new) ≡ map f xs
  set_same f [] k d new below same = refl
  set_same f (x ∷ xs) zero d new below same = ap (λ (y : Y). y ∷ map f xs) same
  set_same f (x ∷ xs) (suc k) d new below same = ap (λ (zs : List _). f x ∷ zs) (set_same f xs k d new (omega arith) same)

  -- one element more of a list is changed, as those before it
  pub set_changed : (f : X → Y) (g : Y → Y) (xs : List X) (ys : List Y) (k : ℕ) (d new : X) → map f xs ≡ map g (take k ys) ++ drop k ys → k < length xs → f new ≡ g (f (get_or xs k d)) → map f (set xs k new) ≡ map g (take (suc k) ys) ++ drop (suc k) ys
  set_changed f g [] ys k d new so_far below changed = absurd (omega arith)
  set_changed f g (x ∷ xs) [] zero d new so_far below changed = absurd (cc)
  set_changed f g (x ∷ xs) [] (suc k) d new so_far below changed = absurd (cc)
  set_changed f g (x ∷ xs) (y ∷ ys) zero d new so_far below changed =
      let first : f x ≡ y = cc in
      let rest : map f xs ≡ ys = cc in
      let e : f new ≡ g (f x) = changed in
      rw (e, first, rest) refl
  set_changed f g (x ∷ xs) (y ∷ ys) (suc k) d new so_far below changed =
      let first : f x ≡ g y = cc in
      let rest : map f xs ≡ map g (take k ys) ++ drop k ys = cc in
      rw (first, set_changed f g xs ys k d new rest (omega arith) changed) refl

  pub same_length : (f : X → Y) (xs ys : List X) → map f xs ≡ map f ys → length xs ≡ length ys
  same_length f xs ys same = sym (length-map xs f) ∙ ap length same ∙ length-map ys f

  pub changed_length : (f : X → Y) (g : Y → Y) (xs ys : List X) → map f xs ≡ map g (map f ys) → length xs ≡ length ys
  changed_length f g xs ys same = sym (length-map xs f) ∙ ap length same ∙ length-map (map f ys) g ∙ length-map ys f

module _ {X : Type 0} where
  -- a list of as many elements is written over another
  pub written_over : (n : ℕ) (new old : List X) → length old ≡ n → length new ≡ length old → take n (new ++ drop (length new) old) ≡ new
  written_over n new old is same =
      let none : drop (length new) old ≡ [] = drop_of_length-le old (omega arith) in
      let whole : length new ≤ n = omega arith in
      rw (none, append-nil new) (take_all n new whole)
