-- What the session still comes to is what it comes to from its beginning.
use Rattle.std.proofs.Common.{◌≡◌, ◌≢◌, ◌≤◌, ℕ, List}
use Rattle.outside.specs.Event.{Event}
use Rattle.outside.specs.Fetched.{Fetched}
use Rattle.shown_values.specs.contracts.formatter.FormatterGivesTexts.TheImpl as formats
use Rattle.segment_header.specs.contracts.widener.WidenerAllowsValues.TheImpl as widens
use Rattle.line_session.specs.Tools.{tools_of}
use Rattle.input_lines.specs.Reader.{IsAtEnd, allowed}
use Rattle.olap_meaning.specs.Legal.{Legal}
use Rattle.line_session.specs.Desks.{DeskOf, GoesOn}
use Rattle.line_session.specs.declared.end.SessionEnd.{SessionEnd}
use Rattle.line_session.specs.declared.end.SessionEnd.TheVariants.{Memory}
use Rattle.line_session.proofs.Serving.{Serves}
use Rattle.line_session.proofs.session.serve.Given as goal

-- whatever session is served from here on, together with the lines so far it is one from the start on
abbrev pub invariant-loop-end : goal.invariant-loop-end
invariant-loop-end g l = record {
  served :
      (end : SessionEnd) (after : DeskOf) (answers : List Fetched) (talk : List Event) (steps : ℕ) → end ≢ Memory
      → Serves (tools_of ((formats.answers-value g.dyn-1).it l.tools.formatter) ((widens.answers-value g.dyn-2).it l.tools.widener)) l.reader end (g.P.Desk.seen l.desk) after (g.K.Link.talk l.link) talk (g.D.Depot.answers l.depot) answers (g.D.Depot.files l.initial.depot) (g.K.Link.left l.link) l.steps steps
      → Serves (tools_of ((formats.answers-value g.dyn-1).it l.tools.formatter) ((widens.answers-value g.dyn-2).it l.tools.widener)) l.initial.reader end (g.P.Desk.seen l.initial.desk) after (g.K.Link.talk l.initial.link) talk (g.D.Depot.answers l.initial.depot) answers (g.D.Depot.files l.initial.depot) (g.K.Link.left l.initial.link) l.initial.steps steps;
  grown : GoesOn (g.P.Desk.seen l.initial.desk) (g.P.Desk.seen l.desk);
  legal : Legal (g.P.Desk.seen l.desk).cache.setting (g.P.Desk.seen l.desk).cache.entries;
  at_end : IsAtEnd l.reader.ended (g.K.Link.left l.link);
  files : g.D.Depot.files l.depot ≡ g.D.Depot.files l.initial.depot;
  at_least : l.initial.steps ≤ l.steps;
}

abbrev pub decreases-loop-end : goal.decreases-loop-end
decreases-loop-end g l = allowed l.reader
