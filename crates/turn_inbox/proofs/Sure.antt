-- The basis of a view that has one.
use Rattle.std.proofs.Common.{◌≡◌, ℕ, List, Option, Some, None, true≢false, refl, sym, ap, ◌∙◌}
use Rattle.std.specs.Prelude.{IsSome}
use Rattle.atomic_table.specs.Seated.{TableId}
use Rattle.turn_inbox.specs.Known.{Identity, Known, sure}

module _ {G : Type 0} where
  pub is_sure : (o : Option G) (p : IsSome o) → o ≡ Some (sure o p)
  is_sure (Some g) p = refl
  is_sure None p = absurd (true≢false (sym p))

  pub sure_is : (o : Option G) (p : IsSome o) (g : G) → o ≡ Some g → sure o p ≡ g
  sure_is (Some h) p g is = some_same (Some h) (Some g) h g refl refl is
    where
      value_or : G → Option G → G
      value_or d (Some x) = x
      value_or d None = d

      some_same : (a b : Option G) (x y : G) → a ≡ Some x → b ≡ Some y → a ≡ b → x ≡ y
      some_same a b x y p q e = ap (value_or x) (sym p ∙ (e ∙ q))
  sure_is None p g is = absurd (true≢false (sym p))

  pub sure_same : (o o' : Option G) (p : IsSome o) (p' : IsSome o') → o ≡ o' → sure o p ≡ sure o' p'
  sure_same o o' p p' e = sure_is o p (sure o' p') (e ∙ is_sure o' p')

  pub identity_is : (t t' : TableId) (o : Option G) (p : IsSome o) (g : G) (n n' : ℕ) → t ≡ t' → o ≡ Some g → n ≡ n' → ◌≡◌ {A = Identity G} (record { table = t; basis = sure o p; seats = n }) (record { table = t'; basis = g; seats = n' })
  identity_is t t' o p g n n' e f h = let s = sure_is o p g f in λ i. record { table = e i; basis = s i; seats = h i }

  pub same_identity : (t t' : TableId) (o o' : Option G) (p : IsSome o) (p' : IsSome o') (n n' : ℕ) → t ≡ t' → o ≡ o' → n ≡ n' → ◌≡◌ {A = Identity G} (record { table = t; basis = sure o p; seats = n }) (record { table = t'; basis = sure o' p'; seats = n' })
  same_identity t t' o o' p p' n n' e f h = let s = sure_same o o' p p' f in λ i. record { table = e i; basis = s i; seats = h i }

  pub same_known : {E : Type 0} (n n' : ℕ) (xs xs' : List E) (ls ls' : List ℕ) (a a' : Identity G) → n ≡ n' → xs ≡ xs' → ls ≡ ls' → a ≡ a' → ◌≡◌ {A = Known E G} (record { number = n; seen = xs; looks = ls; inbox = a }) (record { number = n'; seen = xs'; looks = ls'; inbox = a' })
  same_known n n' xs xs' ls ls' a a' e f h k = λ i. record { number = e i; seen = f i; looks = h i; inbox = k i }

  pub on_basis : (a : Identity G) (t : TableId) (g g' : G) (n n' : ℕ) → a ≡ record { table = t; basis = g; seats = n } → g ≡ g' → n ≡ n' → a ≡ record { table = t; basis = g'; seats = n' }
  on_basis a t g g' n n' is same many = is ∙ (λ i. record { table = t; basis = same i; seats = many i })
