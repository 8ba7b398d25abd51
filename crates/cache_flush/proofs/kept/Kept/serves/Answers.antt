-- The regions that concern the load tell of the cells that it covers.
use Rattle.std.proofs.Common.{◌≡◌, ◌∙◌, sym, true, drop}
use Rattle.std.specs.List.{list_all}
use Rattle.std.proofs.lemmas.Bool.{and_parts}
use Rattle.olap_meaning.specs.Covering.{header_covers, just_covers, names_column}
use Rattle.cache_flush.proofs.Concerning.{live_concerning}
use Rattle.cache_flush.proofs.kept.Kept.serves.Goals as goal

pub returns-then-just_covers : goal.returns-then-just_covers
returns-then-just_covers c =
    let header = c.args.self.now.body.header in
    let cell = c.args.cell.now in
    let just : just_covers header cell ≡ true = sym c.just_covers.ensures ∙ c.if-just_covers.true in
    let wide = (and_parts (header_covers header cell) (list_all (λ column. names_column cell column.0) header.columns) just).0 in
    rw just (c.is_live.ensures ∙ sym (live_concerning header cell (drop c.args.self.now.place c.args.shut.now.regions) wide))
