-- Each case of an answer gives its own numbers. Assumes nothing.
use Rattle.crossing.specs.Crossing.{report_of}
use Rattle.crossing.proofs.answered.Goals as goal

pub returns-in-Opened : goal.returns-in-Opened
unfolding report_of
returns-in-Opened c = rw c.in-Opened.is c.accepted.ensures

pub returns-in-Played : goal.returns-in-Played
unfolding report_of
returns-in-Played c = rw c.in-Played.is c.accepted-in-Played.ensures

pub returns-in-Cued : goal.returns-in-Cued
unfolding report_of
returns-in-Cued c = rw c.in-Cued.is c.accepted-in-Cued.ensures

pub returns-in-Went : goal.returns-in-Went
unfolding report_of
returns-in-Went c = rw c.in-Went.is c.accepted-in-Went.ensures

pub returns-in-Edited : goal.returns-in-Edited
unfolding report_of
returns-in-Edited c = rw c.in-Edited.is c.accepted-in-Edited.ensures
