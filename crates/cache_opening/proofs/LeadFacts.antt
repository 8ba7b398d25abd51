-- What is asked for in parts leads to what its parts lead to, one after another.
use Rattle.std.proofs.Common.{◌≡◌, sym, ap, ◌∙◌, ℕ, List, [], ◌∷◌, ◌++◌, Option, Some, None, Result, Ok, Err, append-nil, append_assoc, inl, inr, ◌⊎◌}
use Rattle.std.specs.Prelude.{All, IfSome, IfErr, IfOk}
use Rattle.std.proofs.lemmas.List.Elements.{All-append, All-cons, All-nil}
use Rattle.outside.specs.Fetched.{Fetched}
use Rattle.outside.specs.Told.{Files, file_named}
use Rattle.outside.specs.declared.depot.DepotRefusal.TheVariants as depot
use Rattle.cache_opening.specs.declared.fault.OpenFault.{OpenFault}
use Rattle.cache_opening.specs.declared.fault.OpenFault.TheVariants.{NoFile, Source, OutOfMemory}
use Rattle.cache_opening.specs.Asking.{Asking, ask, ◌>>=◌, Comes, value, refuses, found, missing, failed, wanting, unnamed, stopped, Leads, bytes_of, read_by}
use Rattle.outside.specs.Told.{IsOf}
use Rattle.cache_opening.specs.Steps.{IsOrMemory}

module _ {A B : Type 0} (next : A → Asking B) where
  -- what comes of the rest comes of the whole; a fault ends the whole
  abbrev pub Continues : Asking A → List Fetched → Result A OpenFault → Type 0
  Continues asking answers (Ok x) = (more : List Fetched) (outcome : Result B OpenFault) → Comes (next x) more outcome → Comes (asking >>= next) (answers ++ more) outcome
  Continues asking answers (Err fault) = Comes (asking >>= next) answers (Err fault)

  found_on : (name bytes : List ℕ) (rest : List ℕ → Asking A) (answers : List Fetched) (outcome : Result A OpenFault) → Continues (rest bytes) answers outcome → Continues (ask name rest) ((name, Ok bytes) ∷ answers) outcome
  found_on name bytes rest answers (Ok x) h = λ more outcome k. found (h more outcome k)
  found_on name bytes rest answers (Err fault) h = found h

  pub continues : {asking : Asking A} {answers : List Fetched} {outcome : Result A OpenFault} → Comes asking answers outcome → Continues asking answers outcome
  continues value = λ more outcome h. h
  continues refuses = refuses
  continues (found {name} {bytes} {rest} {answers} {outcome} h) = found_on name bytes rest answers outcome (continues h)
  continues missing = missing
  continues failed = failed
  continues wanting = wanting
  continues unnamed = unnamed
  continues stopped = stopped

-- no answers are those of any files
pub none_theirs : (files : Option Files) → IfSome files (λ all. All (IsOf all) [])
none_theirs None = tt
none_theirs (Some all) = All-nil (IsOf all)

-- one answer is that of the files, where it is told
one_theirs : (files : Option Files) (answer : Fetched) → IfSome files (λ all. IsOf all answer) → IfSome files (λ all. All (IsOf all) (answer ∷ []))
one_theirs None answer h = tt
one_theirs (Some all) answer h = All-cons (IsOf all) answer [] h (All-nil (IsOf all))

both_theirs : (files : Option Files) (answers more : List Fetched) → IfSome files (λ all. All (IsOf all) answers) → IfSome files (λ all. All (IsOf all) more) → IfSome files (λ all. All (IsOf all) (answers ++ more))
both_theirs None answers more h k = tt
both_theirs (Some all) answers more h k = All-append (IsOf all) answers more h k

-- what comes with nothing asked for
pub leads_here : {A : Type 0} (files : Option Files) (now : List Fetched) (asking : Asking A) (outcome : Result A OpenFault) → Comes asking [] outcome → Leads files now now asking outcome
leads_here files now asking outcome h = record { answers = []; added = sym (append-nil now); comes = h; theirs = none_theirs files }

-- there was no memory to go on
pub leads_stopped : {A : Type 0} (files : Option Files) (now : List Fetched) (asking : Asking A) → Leads files now now asking (Err OutOfMemory)
leads_stopped files now asking = leads_here files now asking (Err OutOfMemory) stopped

-- what comes of one answer
leads_one : {A : Type 0} (files : Option Files) (before after : List Fetched) (asking : Asking A) (answer : Fetched) (outcome : Result A OpenFault) → after ≡ before ++ answer ∷ [] → IfSome files (λ all. IsOf all answer) → Comes asking (answer ∷ []) outcome → Leads files before after asking outcome
leads_one files before after asking answer outcome added theirs comes = record { answers = answer ∷ []; added = added; comes = comes; theirs = one_theirs files answer theirs }

always : (files : Option Files) (P : Files → Type 0) → ((all : Files) → P all) → IfSome files P
always None P h = tt
always (Some all) P h = h all

module _ (files : Option Files) (before after : List Fetched) (name : List ℕ) where
  pub leads_found : (bytes : List ℕ) → after ≡ before ++ (name, Ok bytes) ∷ [] → IfSome files (λ all. file_named all name ≡ Some bytes) → Leads files before after (bytes_of name) (Ok bytes)
  leads_found bytes added theirs = leads_one files before after (bytes_of name) (name, Ok bytes) (Ok bytes) added theirs (found value)

  pub leads_missing : after ≡ before ++ (name, Err depot.Missing) ∷ [] → IfSome files (λ all. file_named all name ≡ None) → Leads files before after (bytes_of name) (Err (NoFile name))
  leads_missing added theirs = leads_one files before after (bytes_of name) (name, Err depot.Missing) (Err (NoFile name)) added theirs missing

  pub leads_unnamed : after ≡ before ++ (name, Err depot.Missing) ∷ [] → IfSome files (λ all. file_named all name ≡ None) → Leads files before after (bytes_of name) (Err OutOfMemory)
  leads_unnamed added theirs = leads_one files before after (bytes_of name) (name, Err depot.Missing) (Err OutOfMemory) added theirs unnamed

  pub leads_failed : after ≡ before ++ (name, Err depot.Failed) ∷ [] → Leads files before after (bytes_of name) (Err Source)
  leads_failed added = leads_one files before after (bytes_of name) (name, Err depot.Failed) (Err Source) added (always files (λ all. Unit {0}) (λ all. tt)) failed

  pub leads_wanting : after ≡ before ++ (name, Err depot.OutOfMemory) ∷ [] → Leads files before after (bytes_of name) (Err OutOfMemory)
  leads_wanting added = leads_one files before after (bytes_of name) (name, Err depot.OutOfMemory) (Err OutOfMemory) added (always files (λ all. Unit {0}) (λ all. tt)) wanting

module _ {A B : Type 0} (first : Asking A) (next : A → Asking B) (files : Option Files) (before : List Fetched) where
  -- the first of both has failed
  pub leads_first : (after : List Fetched) (fault : OpenFault) → Leads files before after first (Err fault) → Leads files before after (first >>= next) (Err fault)
  leads_first after fault h = record { answers = h.answers; added = h.added; comes = continues next h.comes; theirs = h.theirs }

  -- the first of both is made, and then this came of the second
  pub leads_on : (middle after : List Fetched) (x : A) (outcome : Result B OpenFault) → Leads files before middle first (Ok x) → Leads files middle after (next x) outcome → Leads files before after (first >>= next) outcome
  leads_on middle after x outcome h k = record {
    answers = h.answers ++ k.answers;
    added = k.added ∙ ap (λ (seen : List Fetched). seen ++ k.answers) h.added ∙ append_assoc before h.answers k.answers;
    comes = continues next h.comes k.answers outcome k.comes;
    theirs = both_theirs files h.answers k.answers h.theirs k.theirs;
  }

  -- the first of both is made, and nothing was asked for then
  pub leads_then : (after : List Fetched) (x : A) (outcome : Result B OpenFault) → Leads files before after first (Ok x) → Comes (next x) [] outcome → Leads files before after (first >>= next) outcome
  leads_then after x outcome h k = leads_on after after x outcome h (leads_here files after (next x) outcome k)

-- where a value came, there may be no memory in its stead
abbrev pub FallsShort : {A : Type 0} → Asking A → List Fetched → Result A OpenFault → Type 0
FallsShort asking answers (Ok x) = Comes asking answers (Err OutOfMemory)
FallsShort asking answers (Err fault) = Unit {0}

found_short : {A : Type 0} (name bytes : List ℕ) (rest : List ℕ → Asking A) (answers : List Fetched) (outcome : Result A OpenFault) → FallsShort (rest bytes) answers outcome → FallsShort (ask name rest) ((name, Ok bytes) ∷ answers) outcome
found_short name bytes rest answers (Ok x) h = found h
found_short name bytes rest answers (Err fault) h = tt

falls_short : {A : Type 0} {asking : Asking A} {answers : List Fetched} {outcome : Result A OpenFault} → Comes asking answers outcome → FallsShort asking answers outcome
falls_short value = stopped
falls_short refuses = tt
falls_short (found {name} {bytes} {rest} {answers} {outcome} h) = found_short name bytes rest answers outcome (falls_short h)
falls_short missing = tt
falls_short failed = tt
falls_short wanting = tt
falls_short unnamed = tt
falls_short stopped = tt

-- all was asked for, and there was no memory to go on
pub leads_short : {A : Type 0} (files : Option Files) (before after : List Fetched) (asking : Asking A) (x : A) → Leads files before after asking (Ok x) → Leads files before after asking (Err OutOfMemory)
leads_short files before after asking x h = record { answers = h.answers; added = h.added; comes = falls_short h.comes; theirs = h.theirs }

-- what is so of the value and of the fault is so of the outcome
pub either : {A : Type 0} (P : Result A OpenFault → Type 0) (outcome : Result A OpenFault) → IfOk outcome (λ x. P (Ok x)) → IfErr outcome (λ fault. P (Err fault)) → P outcome
either P (Ok x) h k = h
either P (Err fault) h k = k

-- what a reader refuses, where it has memory
pub refused_by_reader : {A Fault : Type 0} (told : Fault → OpenFault) (r : Result A Fault) (memory why : Fault) (fault : OpenFault) → (why ≡ memory → ⊥) → (why ≡ memory) ⊎ (r ≡ Err why) → IsOrMemory (told why) fault → Comes (read_by told r) [] (Err fault)
refused_by_reader told r memory why fault other (inl none) is = absurd (other none)
refused_by_reader told r memory why fault other (inr h) (inl u) = rw (h, u) refuses
refused_by_reader told r memory why fault other (inr h) (inr m) = rw m stopped
