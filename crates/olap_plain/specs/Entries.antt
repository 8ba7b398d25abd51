-- An entry of the code as an entry of the definitions.
use Rattle.std.specs.Prelude.{List, map}
use Rattle.olap_plain.specs.declared.entries.PlainEntry.{PlainEntry}
use Rattle.olap_plain.specs.declared.entries.PlainEntry.TheVariants as plain
use Rattle.olap_meaning.specs.History.{Entry, Append, Agg, Flush, Start, Done, Drop, Evict, Answer, Saw}

-- what a plain entry says
abbrev pub entry_of : PlainEntry → Entry
entry_of (plain.Append who cube version rows) = Append who cube version rows
entry_of (plain.Agg who table version) = Agg who table version
entry_of (plain.Flush who region) = Flush who region
entry_of (plain.Start who header version reason) =
    Start (record { who = who; header = header; version = version; reason = reason })
entry_of (plain.Done who load) = Done who load
entry_of (plain.Drop who load) = Drop who load
entry_of (plain.Evict load) = Evict load
entry_of (plain.Answer who cells) = Answer who cells
entry_of (plain.Saw who) = Saw who

-- what plain entries say, in order
abbrev pub entries : List PlainEntry → List Entry
entries plain_entries = map entry_of plain_entries
