-- What is made of one file leads to what its bytes are read as: the file that a part of a schema names.
use Rattle.std.proofs.Common.{◌≡◌, refl, sym, subst, ℕ, ◌<◌, ◌≤◌, List, [], length, slice_get, Option, Some, None, Result, Ok, Err, IfOk, IfErr, ◌⊎◌, inl, inr, arith}
use Rattle.std.proofs.lemmas.Option.{slice_get_cases}
use Rattle.std.specs.Option.{IsSomeAnd}
use Rattle.outside.specs.Fetched.{Fetched}
use Rattle.outside.specs.Told.{Files}
use Rattle.cache_opening.specs.declared.fault.OpenFault.{OpenFault}
use Rattle.cache_opening.specs.declared.fault.OpenFault.TheVariants.{OutOfMemory}
use Rattle.cache_opening.specs.Asking.{Asking, ◌>>=◌, Comes, value, stopped, Leads, bytes_of, read_by}
use Rattle.cache_opening.specs.Steps.{IsOrMemory}
use Rattle.cache_opening.proofs.LeadFacts.{leads_first, leads_then, refused_by_reader}

module _ {X T V Fault : Type 0} (name_of : X → List ℕ) (told : X → Fault → OpenFault) (reads : X → List ℕ → Result V Fault) (view : T → V) (files : Option Files) (before after : List Fetched) where
  -- what is made of the bytes of the file of a part
  abbrev pub of_bytes : X → List ℕ → Asking V
  of_bytes x bytes = read_by (told x) (reads x bytes)

  -- what is asked for of the file of a part
  abbrev pub reading : X → Asking V
  reading x = bytes_of (name_of x) >>= of_bytes x

  -- its file was not read
  pub unread : (o : Option X) (name : List ℕ) (fault : OpenFault) → IsSomeAnd o (λ x. name ≡ name_of x) → Leads files before after (bytes_of name) (Err fault) → IsSomeAnd o (λ x. Leads files before after (reading x) (Err fault))
  unread None name fault is h = absurd is
  unread (Some x) name fault is h =
      let P : List ℕ → Type 0 = λ n. Leads files before after (bytes_of n) (Err fault) in
      leads_first (bytes_of (name_of x)) (of_bytes x) files before after fault (subst P is h)

  -- its file was read
  pub read_well : (o : Option X) (name bytes seen : List ℕ) (r : Result T OpenFault) → IsSomeAnd o (λ x. name ≡ name_of x) → Leads files before after (bytes_of name) (Ok bytes) → seen ≡ bytes
      → IfOk r (λ t. IsSomeAnd o (λ x. reads x seen ≡ Ok (view t))) → IfOk r (λ t. IsSomeAnd o (λ x. Leads files before after (reading x) (Ok (view t))))
  read_well o name bytes seen (Err fault) is h same k = tt
  read_well None name bytes seen (Ok t) is h same k = absurd is
  read_well (Some x) name bytes seen (Ok t) is h same k =
      let P : List ℕ → Type 0 = λ n. Leads files before after (bytes_of n) (Ok bytes) in
      let Q : Result V Fault → Type 0 = λ v. Comes (read_by (told x) v) [] (Ok (view t)) in
      let well : reads x bytes ≡ Ok (view t) = rw (← same) k in
      leads_then (bytes_of (name_of x)) (of_bytes x) files before after bytes (Ok (view t)) (subst P is h) (subst Q (sym well) value)

  -- its file is refused
  pub read_badly : (o : Option X) (name bytes seen : List ℕ) (r : Result T OpenFault) → IsSomeAnd o (λ x. name ≡ name_of x) → Leads files before after (bytes_of name) (Ok bytes) → seen ≡ bytes
      → IfErr r (λ fault. IsSomeAnd o (λ x. Comes (of_bytes x seen) [] (Err fault))) → IfErr r (λ fault. IsSomeAnd o (λ x. Leads files before after (reading x) (Err fault)))
  read_badly o name bytes seen (Ok t) is h same k = tt
  read_badly None name bytes seen (Err fault) is h same k = absurd is
  read_badly (Some x) name bytes seen (Err fault) is h same k =
      let P : List ℕ → Type 0 = λ n. Leads files before after (bytes_of n) (Ok bytes) in
      let Q : List ℕ → Type 0 = λ b. Comes (of_bytes x b) [] (Err fault) in
      leads_then (bytes_of (name_of x)) (of_bytes x) files before after bytes (Err fault) (subst P is h) (subst Q same k)

-- what holds of a result holds for the part that there is
pub for_some : {X T E : Type 0} (o : Option X) (P : X → Type 0) (Q : T → Type 0) (r : Result T E) → IsSomeAnd o P → IfOk r Q → IfOk r (λ t. IsSomeAnd o (λ _. Q t))
for_some o P Q (Err e) is k = tt
for_some None P Q (Ok t) is k = absurd is
for_some (Some x) P Q (Ok t) is k = k

-- what a reader refuses of the file of a part, where it has memory
pub part_refused_by_reader : {X A Fault : Type 0} (o : Option X) (name_of : X → List ℕ) (told : List ℕ → Fault → OpenFault) (reads : X → Result A Fault) (name : List ℕ) (memory why : Fault) (fault : OpenFault) → (why ≡ memory → ⊥) → IsSomeAnd o (λ x. name ≡ name_of x)
    → (why ≡ memory) ⊎ IsSomeAnd o (λ x. reads x ≡ Err why) → IsOrMemory (told name why) fault → IsSomeAnd o (λ x. Comes (read_by (told (name_of x)) (reads x)) [] (Err fault))
part_refused_by_reader None name_of told reads name memory why fault other named h is = absurd named
part_refused_by_reader (Some x) name_of told reads name memory why fault other named h is =
    let P : List ℕ → Type 0 = λ n. Comes (read_by (told n) (reads x)) [] (Err fault) in subst P named (refused_by_reader (told name) (reads x) memory why fault other h is)

-- a part that there is
pub there_is : {X : Type 0} (xs : List X) (i : ℕ) (P : X → Type 0) → i < length xs → ((x : X) → slice_get xs i ≡ Some x → P x) → IsSomeAnd (slice_get xs i) P
there_is {X = X} xs i P known all = by (slice_get xs i) refl
  where
    by : (o : Option X) → slice_get xs i ≡ o → IsSomeAnd o P
    by None at = elim (slice_get_cases xs i).1 [ inl found ↦ absurd (let e = found.2 in let n : ⊥ = cc (e, at) in n) | inr past ↦ absurd (let end : length xs ≤ i = past.0 in omega arith) ]
    by (Some x) at = all x at

-- there was no memory to make something of the file of a part
pub part_stopped : {X A : Type 0} (xs : List X) (i : ℕ) (asking : X → Asking A) → i < length xs → IsSomeAnd (slice_get xs i) (λ x. Comes (asking x) [] (Err OutOfMemory))
part_stopped xs i asking known = there_is xs i (λ x. Comes (asking x) [] (Err OutOfMemory)) known (λ x at. stopped)
