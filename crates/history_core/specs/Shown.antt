-- What is shown of the kept loads.
use Rattle.std.specs.Prelude.{ℕ, List, Option, None, if◌then◌else◌, filter_map, length, option_map}
use Rattle.olap_meaning.specs.History.{Entry, Load, flush_count, kept, load_at}
use Rattle.history_core.specs.declared.answers.CacheLine.{CacheLine}
use Rattle.history_core.specs.Groups.{numbers_from}

-- the line of a load: its number, version and header, and how many flushes since its Start touch it
abbrev pub line_of : List Entry → ℕ → Load → CacheLine
line_of history j load =
    record {
      load = j;
      version = load.version;
      header = load.header;
      flushes = flush_count history j;
    }

-- the line of load j, where it is kept
abbrev pub kept_line : List Entry → ℕ → Option CacheLine
kept_line history j =
    if kept history j then option_map (line_of history j) (load_at history j) else None

-- the lines of the kept loads, by rising number
abbrev pub cache_lines : List Entry → List CacheLine
cache_lines history = filter_map (kept_line history) (numbers_from 1 (length history))
