-- What a table keeps of its records, as one more is added.
use Rattle.std.proofs.Common.{◌≡◌, ◌∙◌, ◌<◌, ◌&&◌, ◌++◌, ℕ, true, false, List, [], ◌∷◌, sym, ap, map, not, bytes_eq, length, nat_eq, arith, if◌then◌else◌}
use Rattle.std.specs.List.{list_any}
use Rattle.std.proofs.lemmas.List.{map-append, length-append}
use Rattle.std.proofs.lemmas.List.Folds.{list_all-append}
use Rattle.std.proofs.lemmas.Bool.Decides.{nat_tests}
use Rattle.olap_meaning.specs.declared.schema.TheConstants.{RECORD_LIMIT}
use Rattle.olap_meaning.specs.declared.tables.Record.{Record}
use Rattle.olap_meaning.specs.Records.{is_null}
use Rattle.catalog_tables.specs.Tables.{seen_with, has_key, have_fields, AreRecords}
use Rattle.catalog_tables.proofs.SeenFacts.{list_any-map}

-- a key is among the keys where a record has it
pub keyed_any : (keys : List (List ℕ)) (records : List Record) (key : List ℕ) → keys ≡ map (λ r. r.key) records → list_any (bytes_eq key) keys ≡ has_key records key
keyed_any keys records key keyed = ap (list_any (bytes_eq key)) keyed ∙ list_any-map (λ (r : Record). r.key) (bytes_eq key) records

own_fields : (levels : ℕ) (own : List (List ℕ)) → length own ≡ levels → (nat_eq (length own) levels && true) ≡ true
own_fields levels own whole = rw whole (grind (arith, nat_tests))

-- one record more
pub records_push : (levels : ℕ) (keys after : List (List ℕ)) (fields : List (List (List ℕ))) (records : List Record) (key : List ℕ) (own : List (List ℕ)) → AreRecords levels keys fields records
    → has_key records key ≡ false → length own ≡ levels → list_any is_null own ≡ false → length records < RECORD_LIMIT → after ≡ seen_with keys key
    → AreRecords levels after (fields ++ own ∷ []) (records ++ (record { key = key; fields = own }) ∷ [])
records_push levels keys after fields records key own kept new whole full room seen =
    let added : Record = record { key = key; fields = own } in
    record {
      keyed =
          seen ∙ ap (λ b. if b then keys else keys ++ key ∷ []) (keyed_any keys records key kept.keyed ∙ new) ∙ ap (λ ks. ks ++ key ∷ []) kept.keyed
          ∙ sym (map-append (λ (r : Record). r.key) records (added ∷ []));
      rows = ap (λ fs. fs ++ own ∷ []) kept.rows ∙ sym (map-append (λ (r : Record). r.fields) records (added ∷ []));
      even = every;
      filled =
          list_all-append (λ (r : Record). not (list_any is_null r.fields)) records (added ∷ [])
          ∙ ap (λ b. b && (not (list_any is_null own) && true)) kept.filled ∙ ap (λ b. not b && true) full;
      room = omega (arith, length-append records (added ∷ []));
    }
  where
    every : have_fields levels (records ++ (record { key = key; fields = own }) ∷ []) ≡ true
    every =
        list_all-append (λ (r : Record). nat_eq (length r.fields) levels) records ((record { key = key; fields = own }) ∷ [])
        ∙ ap (λ b. b && (nat_eq (length own) levels && true)) kept.even ∙ own_fields levels own whole
