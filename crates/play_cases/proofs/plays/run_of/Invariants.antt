-- The counter of the steps is new.
use Rattle.play_cases.proofs.plays.run_of.Given as goal

abbrev pub ghosts-run : goal.ghosts-run
ghosts-run g a = record { name = a.blank.name; parts = a.blank.parts }
