-- Each place, by its variant.
use Rattle.mpslp_c.proofs.faults.c_place.Goals as goal

pub returns-in-Objective : goal.returns-in-Objective
returns-in-Objective c = rw c.in-Objective.is c.not_lp.ensures

pub returns-in-Row : goal.returns-in-Row
returns-in-Row c = rw c.in-Row.is c.not_lp-in-Row.ensures

pub returns-in-Column : goal.returns-in-Column
returns-in-Column c = rw c.in-Column.is c.not_lp-in-Column.ensures
