-- The parts of a list by a key.
use Rattle.std.specs.Prelude.{Bool, true, not, List, [], ◌∷◌, ◌&&◌, filter, flat_map}
use Rattle.std.specs.List.{list_all, list_any}

-- keys are different: none is the same as one after it
abbrev pub are_different : {K : Type 0} → (K → K → Bool) → List K → Bool
are_different same [] = true
are_different same (k ∷ ks) = list_all (λ later. not (same k later)) ks && are_different same ks

-- keys hold those of a list: the key of each element is one of them
abbrev pub hold_keys : {X K : Type 0} → (K → K → Bool) → (X → K) → List K → List X → Bool
hold_keys same key keys xs = list_all (λ x. list_any (λ k. same k (key x)) keys) xs

-- the part of a list with one key
abbrev pub part : {X K : Type 0} → (K → K → Bool) → (X → K) → List X → K → List X
part same key xs k = filter (λ x. same k (key x)) xs

-- the parts of a list by some keys, one after another
abbrev pub parts : {X K : Type 0} → (K → K → Bool) → (X → K) → List K → List X → List X
parts same key keys xs = flat_map (part same key xs) keys
