-- An entry of the code as an entry of the definitions.
use Rattle.history_core.specs.declared.entry.Entry.{Entry as Event}
use Rattle.history_core.specs.declared.entry.Entry.TheVariants as event
use Rattle.olap_meaning.specs.History.{Entry, Append, Agg, Flush, Start, Done, Drop, Evict, Answer, Saw}

-- what an event says: its rows are those of its batch, and its region and the cells of an answer are those that are
-- shared
abbrev pub entry_of : Event → Entry
entry_of (event.Append who cube version batch) = Append who cube version batch.value.rows
entry_of (event.Agg who table version) = Agg who table version
entry_of (event.Flush who region) = Flush who region.value
entry_of (event.Start who header version reason) =
    Start (record { who = who; header = header; version = version; reason = reason })
entry_of (event.Done who load) = Done who load
entry_of (event.Drop who load) = Drop who load
entry_of (event.Evict load) = Evict load
entry_of (event.Answer who cells) = Answer who cells.value
entry_of (event.Saw who) = Saw who
