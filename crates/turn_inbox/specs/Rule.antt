-- The rule of the inbox, and what each kind of step tells.
use Rattle.std.specs.Prelude.{◌≡◌, ℕ, zero, suc, ◌≤◌, ◌==◌, leb, List, [], ◌∷◌, ◌++◌, length, Bool, true, false, cond, Option, Some, None, MatchBool}
use mathlib.Core.Option.{some, none}
use mathlib.Core.List.{IsPrefix}
use lib.ListN.{get_elem?}
use Rattle.atomic_table.specs.Table.{State, Me, Step}
use Rattle.turn_inbox.specs.Entries.{Among, by, AllUpTo}
use Rattle.turn_inbox.specs.declared.view.View.{View}

abbrev pub first_of : {A : Type 0} → List A → List A
first_of [] = []
first_of (x ∷ xs) = x ∷ []

abbrev pub rest_of : {A : Type 0} → List A → List A
rest_of [] = []
rest_of (x ∷ xs) = xs

-- the list that has more entries, or the second where they have as many
abbrev pub longer : {A : Type 0} → List A → List A → List A
longer xs ys = cond (leb (length xs) (length ys)) ys xs

module _ {E : Type 0} (seat_of : E → ℕ) (xs : List E) where
  -- n numbers, from k on, each with its entries
  abbrev pub up_from : ℕ → ℕ → List (ℕ × List E)
  up_from k zero = []
  up_from k (suc n) = (k, by seat_of k xs) ∷ up_from (suc k) n

  -- the same numbers with their entries in this list
  abbrev pub again : List (ℕ × List E) → List (ℕ × List E)
  again [] = []
  again (p ∷ ps) = (p.0, by seat_of p.0 xs) ∷ again ps

-- the view has the number
abbrev pub Has : {E G : Type 0} → ℕ → View E G → Type 0
Has {E} k v = (es : List E) × Among (k, es) v.mine

-- the views that the steps leave
module _ {E G : Type 0} where
  -- a view that was joined away: it has no number, and has seen nothing
  abbrev pub spent : View E G
  spent = record { mine = []; seen = []; stamps = []; told = []; looks = []; basis = None; seats = 0; ticket = 0; turn = false; fresh = false }

  -- the first view: it has all numbers and the turn
  abbrev pub founder : (E → ℕ) → List E → G → ℕ → View E G
  founder seat_of xs g n = record spent { mine = up_from seat_of xs 1 n; seen = xs; basis = Some g; seats = n; turn = true; fresh = true }

  -- the view with the turn, once it has seen these entries
  abbrev pub holding : View E G → List E → View E G
  holding v xs = record v { seen = xs; turn = true; fresh = false }

  -- the view without the turn
  abbrev pub resting : View E G → View E G
  resting v = record v { turn = false; fresh = false }

  -- the view once it has loaded the count n and seen these entries
  abbrev pub looked : View E G → List E → ℕ → View E G
  looked v xs n = record v { seen = xs; looks = v.looks ++ n ∷ [] }

  -- a copy of what was seen, with no number
  abbrev pub note_of : View E G → View E G
  note_of v = record spent { seen = v.seen; basis = v.basis; seats = v.seats }

  -- a new seat's view, with the first number
  abbrev pub part_of : View E G → View E G
  part_of v = record spent { mine = first_of v.mine; seen = v.seen; basis = v.basis; seats = v.seats }

  -- and what is left
  abbrev pub left_of : View E G → View E G
  left_of v = record v { mine = rest_of v.mine }

  -- the view once its turn has made these entries
  abbrev pub renewed : (E → ℕ) → View E G → List E → View E G
  renewed seat_of v xs = record v { mine = again seat_of xs v.mine; seen = xs; turn = true; fresh = false }

  -- the numbers of both; it has seen the longer of what the two had seen, and is told of both, since a join by itself tells nothing
  abbrev pub merged : View E G → View E G → View E G
  merged v w = record v { mine = v.mine ++ w.mine; seen = longer v.seen w.seen; told = v.seen ∷ w.seen ∷ v.told }

module _ {E G : Type 0} (seat_of : E → ℕ) where
  -- what the rule says of one view, at its place
  pub record Fits (seats : ℕ) (history : List E) (g : G) (turn : ℕ) (at : ℕ → ℕ) (place : ℕ) (v : View E G) : Type 0 where
    -- where it has a number, it has the basis of the history and the number of the seats
    pub based : (k : ℕ) → Has k v → (v.basis ≡ Some g) × (v.seats ≡ seats)
    -- what it has seen is the beginning of the history
    pub seen : IsPrefix v.seen history
    -- and so is each list that it was told of
    pub told : (xs : List E) → Among xs v.told → IsPrefix xs history
    -- each number that it has is one of the seats' and has this place, and the history has just the entries of the number that the view has
    pub mine : (k : ℕ) (es : List E) → Among (k, es) v.mine → (at k ≡ place) × (1 ≤ k) × (k ≤ seats) × (by seat_of k history ≡ es)
    -- where it has the turn, it has the number that the word says, and has seen the whole history
    pub held : v.turn ≡ true → Has turn v × (v.seen ≡ history)

-- the slots while the turn is out: the first view of all has yet to take its slot, each later one takes it with the turn
abbrev pub left_home : {M : Type 0} → Bool → List (mathlib.Core.Option.Option (Option M))
left_home true = some None ∷ []
left_home false = none ∷ []

module _ {M E G : Type 0} (list : M → List E) (basis : M → G) (seat_of : E → ℕ) (lawful : G → List E → Type 0) where
  -- the rule: there is one history, one place for each number, and a number that has the turn, or 0, such that
  pub record Keeps (seats : ℕ) (g : G) (s : State (Option M) (View E G)) : Type 0 where
    pub history : List E
    pub turn : ℕ
    pub at : ℕ → ℕ
    -- the words are the length of the history and the turn
    pub words : s.words ≡ length history ∷ turn ∷ []
    -- the history is lawful on the basis
    pub law : lawful g history
    -- each entry of the history is of nobody or of a seat of the inbox
    pub authors : AllUpTo seat_of seats history
    -- each view fits
    pub fits : (place : ℕ) (v : View E G) → get_elem? s.views place ≡ some v → Fits seat_of seats history g turn at place v
    -- at the place of each number stands a view that has the number
    pub owner : (k : ℕ) → 1 ≤ k → k ≤ seats → (v : View E G) × (get_elem? s.views (at k) ≡ some v) × Has k v
    -- the view at the place of some number has seen the whole history
    pub newest : (k : ℕ) × (v : View E G) × (1 ≤ k) × (k ≤ seats) × (get_elem? s.views (at k) ≡ some v) × (v.seen ≡ history)
    -- where nobody has the turn, the slot has a value, whose list is the history and whose basis is the inbox's
    pub home : turn ≡ 0 → (x : M) × (s.homes ≡ some (Some x) ∷ []) × (list x ≡ history) × (basis x ≡ g)
    -- where a seat has the turn, the view at the place of its number has it, and the slot is out
    pub away : 1 ≤ turn → (v : View E G) × (turn ≤ seats) × (get_elem? s.views (at turn) ≡ some v) × (v.turn ≡ true) × (s.homes ≡ left_home v.fresh)

module _ {E G : Type 0} (seat_of : E → ℕ) (lawful : G → List E → Type 0) where
  -- a list that extends all that the view knows and has no further entry of its numbers; where the view has a number, the list is lawful, and each entry is of nobody or of a seat
  pub record Grown (v : View E G) (xs : List E) : Type 0 where
    pub seen : IsPrefix v.seen xs
    pub told : (ys : List E) → Among ys v.told → IsPrefix ys xs
    pub law : (k : ℕ) → Has k v → (g : G) × (v.basis ≡ Some g) × lawful g xs
    pub authors : (k : ℕ) → Has k v → AllUpTo seat_of v.seats xs
    pub mine : (k : ℕ) (es : List E) → Among (k, es) v.mine → by seat_of k xs ≡ es

-- the slot is taken for the first time
abbrev pub founds : {M E G : Type 0} → Step (Option M) → Me (Option M) (View E G) → ℕ → Me (Option M) (View E G) → Type 0
founds st me found me' = me' ≡ (holding me.0 me.0.seen, (0, None) ∷ me.1)

module _ {M E G : Type 0} (list : M → List E) (basis : M → G) (seat_of : E → ℕ) (lawful : G → List E → Type 0) where
  -- the turn was free, and the seat has it and the slot; or nothing changed
  abbrev pub enters : Step (Option M) → Me (Option M) (View E G) → ℕ → Me (Option M) (View E G) → Type 0
  enters st me found me' = MatchBool (found == st.first)
      ((x : M) × (me' ≡ (holding me.0 (list x), (0, Some x) ∷ me.1)) × (me.0.basis ≡ Some (basis x)) × Grown seat_of lawful me.0 (list x))
      (me' ≡ me)

module _ {M E : Type 0} (list : M → List E) where
  -- the list of the value in the slot that was taken last
  abbrev pub list_in : List (ℕ × Option M) → List E
  list_in [] = []
  list_in ((k, None) ∷ xs) = []
  list_in ((k, Some x) ∷ xs) = list x

  -- the entries of the turn are the history's, and each is of nobody or of a seat
  abbrev pub publishes : {G : Type 0} → (E → ℕ) → Step (Option M) → Me (Option M) (View E G) → ℕ → Me (Option M) (View E G) → Type 0
  publishes seat_of st me found me' = (me' ≡ (renewed seat_of me.0 (list_in me.1), me.1)) × AllUpTo seat_of me.0.seats (list_in me.1)

-- the turn is free again
abbrev pub leaves : {M E G : Type 0} → Step (Option M) → Me (Option M) (View E G) → ℕ → Me (Option M) (View E G) → Type 0
leaves st me found me' = me' ≡ (resting me.0, [])

-- as many entries as the count says were seen
abbrev pub looks : {M E G : Type 0} → (E → ℕ) → (G → List E → Type 0) → Step (Option M) → Me (Option M) (View E G) → ℕ → Me (Option M) (View E G) → Type 0
looks {M} {E} seat_of lawful st me found me' = (xs : List E) × (me' ≡ (looked me.0 xs found, me.1)) × (length xs ≡ found) × Grown seat_of lawful me.0 xs
