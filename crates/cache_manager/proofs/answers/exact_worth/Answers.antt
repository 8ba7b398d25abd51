-- The columns of a known cell rise, and the body of its exact source says its worth.
use Rattle.std.proofs.Common.{◌∙◌, ap, sym, Some}
use Rattle.cell_groups.proofs.KeyFacts.{known_rises}
use Rattle.cache_flush.specs.Loads.{kept_of}
use Rattle.cache_manager.proofs.Serving.{kept_version, kept_worth}
use Rattle.cache_manager.proofs.answers.exact_worth.Goals as goal

pub value-requires-clause-rising : goal.value-requires-clause-rising
value-requires-clause-rising c = known_rises c.args.history.now.setting.catalog c.args.cell.now c.requires.known

pub returns : goal.returns
returns c = record {
  value = kept_worth c.args.history.now.setting.catalog c.args.history.now.entries (record (kept_of c.args.kept.now) { shut = c.requires.exact.0 }) c.args.cell.now c.requires.exact.1.is c.requires.exact.1.serves ∙ ap Some (sym c.value.ensures.value);
  version = kept_version c.args.history.now.setting.catalog c.args.history.now.entries (record (kept_of c.args.kept.now) { shut = c.requires.exact.0 }) c.args.cell.now c.requires.exact.1.is;
}
