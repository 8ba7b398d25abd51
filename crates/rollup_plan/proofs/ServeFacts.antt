-- A plan by which one cell is rolled up, and another cell that is alike.
use Rattle.std.proofs.Common.{◌≡◌, ◌∙◌, ℕ, true, List, [], ◌∷◌, Option, None, Some, map, refl, sym, ap}
use Rattle.std.specs.Prelude.{⊤, ◌&&◌, ◌||◌, ◌==◌, All, Contains, IsTrue, MatchOption, option_map}
use Rattle.std.specs.List.{list_all, list_any}
use Rattle.std.proofs.lemmas.Bool.{and_parts}
use Rattle.std.proofs.lemmas.List.Elements.{All-weaker}
use Rattle.olap_meaning.specs.declared.cells.Allowed.{Allowed}
use Rattle.olap_meaning.specs.declared.cells.Cell.{Cell}
use Rattle.olap_meaning.specs.Covering.{header_covers, names_column}
use Rattle.olap_meaning.specs.Rolled.{IsHeld, IsLacking, Offer, is_any, is_open_but}
use Rattle.olap_meaning.proofs.Members.{All-from_member, all_member, member_filter_map, member_map}
use Rattle.olap_meaning.proofs.Lists.{any_map, mapped_from}
use Rattle.cache_flush.specs.Loads.{KeptOf}
use Rattle.cache_flush.specs.Shuts.{is_live}
use Rattle.rollup_plan.specs.declared.plan.Part.{Part}
use Rattle.rollup_plan.specs.declared.plan.Plan.{Plan}
use Rattle.rollup_plan.specs.Plans.{Share, kept_at, offer_of, offers_at, shares_of}
use Rattle.rollup_plan.specs.Serving.{AreAlike, ServesAlike, is_served, plan_serves}

-- cells that are alike name the same columns
names_same : (one other : Cell) → AreAlike one other → (column : ℕ) → names_column other column ≡ names_column one column
names_same one other alike column =
    sym (any_map (λ n. n == column) (λ (pair : ℕ × ℕ). pair.0) other.at) ∙ ap (λ (ns : List ℕ). list_any (λ n. n == column) ns) (sym alike.columns) ∙ any_map (λ n. n == column) (λ (pair : ℕ × ℕ). pair.0) one.at

open_same : (one other : Cell) → AreAlike one other → (split : ℕ) (columns : List (ℕ × Allowed))
    → list_all (λ own. (own.0 == split) || names_column one own.0 || is_any own.1) columns ≡ true → list_all (λ own. (own.0 == split) || names_column other own.0 || is_any own.1) columns ≡ true
open_same one other alike split [] opened = refl
open_same one other alike split (own ∷ rest) opened =
    let parts = and_parts ((own.0 == split) || names_column one own.0 || is_any own.1) (list_all (λ own. (own.0 == split) || names_column one own.0 || is_any own.1) rest) opened in
    rw (names_same one other alike own.0, parts.0) (open_same one other alike split rest parts.1)

module _ (loads : List KeptOf) (plan : Plan) (cell : Cell) (served : plan_serves loads plan cell ≡ true) where
  covers : (part : Part) (kept : KeptOf) → Contains plan.parts part → kept_at loads part.load ≡ Some kept → header_covers kept.body.header cell ≡ true
  covers part kept held at =
      let told = all_member (λ part. is_served loads cell part.load) plan.parts part served held in
      let both : (header_covers kept.body.header cell && is_live kept.shut cell) ≡ true = rw at at told in
      (and_parts (header_covers kept.body.header cell) (is_live kept.shut cell) both).0

  offers_cover : All (λ offer. IsTrue (header_covers offer.header cell)) (offers_at loads (map (λ part. part.load) plan.parts))
  offers_cover = All-from_member (λ offer. IsTrue (header_covers offer.header cell)) (offers_at loads (map (λ part. part.load) plan.parts)) covered
    where
      covered : (offer : Offer) → Contains (offers_at loads (map (λ part. part.load) plan.parts)) offer → header_covers offer.header cell ≡ true
      covered offer held =
          let number = member_filter_map (λ number. option_map offer_of (kept_at loads number)) (map (λ part. part.load) plan.parts) offer held in
          let kept = mapped_from offer_of (kept_at loads number.0) offer number.2 in
          let part = member_map (λ (part : Part). part.load) plan.parts number.0 number.1 in
          ap (λ (o : Offer). header_covers o.header cell) (sym kept.2) ∙ covers part.0 kept.0 part.1 (ap (kept_at loads) part.2 ∙ kept.1)

  shares_cover : All (λ share. IsTrue (header_covers share.header cell)) (shares_of loads plan.parts)
  shares_cover = All-from_member (λ share. IsTrue (header_covers share.header cell)) (shares_of loads plan.parts) covered
    where
      covered : (share : Share) → Contains (shares_of loads plan.parts) share → header_covers share.header cell ≡ true
      covered share held =
          let part = member_filter_map (λ part. option_map (λ kept. record { header = kept.body.header; own = part.own }) (kept_at loads part.load)) plan.parts share held in
          let kept = mapped_from (λ kept. record { header = kept.body.header; own = part.0.own }) (kept_at loads part.0.load) share part.2 in
          ap (λ (s : Share). header_covers s.header cell) (sym kept.2) ∙ covers part.0 kept.0 part.1 kept.1

  pub serves_alike : ServesAlike loads plan cell
  serves_alike aggregator size other alike rolls = record {
    kept = rolls.kept;
    rolled = record {
      some = rolls.rolled.some;
      version = rolls.rolled.version;
      one_version = rolls.rolled.one_version;
      columns = rolls.rolled.columns;
      one_list = rolls.rolled.one_list;
      more = (rolls.rolled.more.0, lacks rolls.rolled.columns rolls.rolled.more.0 rolls.rolled.more.1);
      covering = offers_cover;
      split = rolls.rolled.split;
      opened = λ column lacking apart. rolls.rolled.opened column (record { own = lacking.own; lacked = sym (names_same other cell alike column) ∙ lacking.lacked }) apart;
      held = holds rolls.rolled.columns (offers_at loads (map (λ part. part.load) plan.parts)) rolls.rolled.split rolls.rolled.held;
      adds_up = rolls.rolled.adds_up;
    };
    along = rolls.along;
    made = record {
      lacked = names_same other cell alike plan.split ∙ rolls.made.lacked;
      formed = rolls.made.formed;
      covering = shares_cover;
      having = rolls.made.having;
      opened = All-weaker (λ share. IsTrue (is_open_but other plan.split share.header)) (λ share. IsTrue (is_open_but cell plan.split share.header)) (λ share opened. open_same other cell alike plan.split share.header.columns opened)
          (shares_of loads plan.parts) rolls.made.opened;
      sets = rolls.made.sets;
      within = rolls.made.within;
      apart = rolls.made.apart;
      every = rolls.made.every;
    };
  }
    where
      lacks : (columns : List ℕ) (column : ℕ) → IsLacking other columns column → IsLacking cell columns column
      lacks columns column lacking = record { own = lacking.own; lacked = names_same other cell alike column ∙ lacking.lacked }

      holds : (columns : List ℕ) (offers : List Offer) (split : Option ℕ) → MatchOption split ⊤ (IsHeld size other columns offers) → MatchOption split ⊤ (IsHeld size cell columns offers)
      holds columns offers None held = held
      holds columns offers (Some split) held = record { lacking = lacks columns split held.lacking; every = held.every }
