use Rattle.tree_search.proofs.TheFirst.{first_answers}
use Rattle.tree_search.proofs.first.search_front.Goals as goal

pub returns-clause-found : goal.returns-clause-found
returns-clause-found g c =
    let told = c.in_ok-numbered.ensures in
    rw c.first_of.ensures
    (first_answers (g.S.Space.live c.args.space.now) (g.S.Space.height c.args.space.now) c.args.budget
    c.in_ok-numbered.numbered
    (record {
      found = told.found;
      only = told.only;
      over = told.over;
      found_load = told.found_load;
      only_load = told.only_load;
      spent = told.spent;
      least = told.least;
      bound = told.bound;
    })).found

pub returns-clause-nothing : goal.returns-clause-nothing
returns-clause-nothing g c =
    let told = c.in_ok-numbered.ensures in
    rw c.first_of.ensures
    (first_answers (g.S.Space.live c.args.space.now) (g.S.Space.height c.args.space.now) c.args.budget
    c.in_ok-numbered.numbered
    (record {
      found = told.found;
      only = told.only;
      over = told.over;
      found_load = told.found_load;
      only_load = told.only_load;
      spent = told.spent;
      least = told.least;
      bound = told.bound;
    })).nothing

pub returns-clause-over : goal.returns-clause-over
returns-clause-over g c =
    let told = c.in_ok-numbered.ensures in
    rw c.first_of.ensures
    (first_answers (g.S.Space.live c.args.space.now) (g.S.Space.height c.args.space.now) c.args.budget
    c.in_ok-numbered.numbered
    (record {
      found = told.found;
      only = told.only;
      over = told.over;
      found_load = told.found_load;
      only_load = told.only_load;
      spent = told.spent;
      least = told.least;
      bound = told.bound;
    })).over

pub returns-clause-found_load : goal.returns-clause-found_load
returns-clause-found_load g c =
    let told = c.in_ok-numbered.ensures in
    rw c.first_of.ensures
    (first_answers (g.S.Space.live c.args.space.now) (g.S.Space.height c.args.space.now) c.args.budget
    c.in_ok-numbered.numbered
    (record {
      found = told.found;
      only = told.only;
      over = told.over;
      found_load = told.found_load;
      only_load = told.only_load;
      spent = told.spent;
      least = told.least;
      bound = told.bound;
    })).found_load

pub returns-clause-nothing_load : goal.returns-clause-nothing_load
returns-clause-nothing_load g c =
    let told = c.in_ok-numbered.ensures in
    rw c.first_of.ensures
    (first_answers (g.S.Space.live c.args.space.now) (g.S.Space.height c.args.space.now) c.args.budget
    c.in_ok-numbered.numbered
    (record {
      found = told.found;
      only = told.only;
      over = told.over;
      found_load = told.found_load;
      only_load = told.only_load;
      spent = told.spent;
      least = told.least;
      bound = told.bound;
    })).nothing_load

pub returns-clause-spent : goal.returns-clause-spent
returns-clause-spent g c =
    let told = c.in_ok-numbered.ensures in
    rw c.first_of.ensures
    (first_answers (g.S.Space.live c.args.space.now) (g.S.Space.height c.args.space.now) c.args.budget
    c.in_ok-numbered.numbered
    (record {
      found = told.found;
      only = told.only;
      over = told.over;
      found_load = told.found_load;
      only_load = told.only_load;
      spent = told.spent;
      least = told.least;
      bound = told.bound;
    })).spent

pub returns-clause-least : goal.returns-clause-least
returns-clause-least g c =
    let told = c.in_ok-numbered.ensures in
    rw c.first_of.ensures
    (first_answers (g.S.Space.live c.args.space.now) (g.S.Space.height c.args.space.now) c.args.budget
    c.in_ok-numbered.numbered
    (record {
      found = told.found;
      only = told.only;
      over = told.over;
      found_load = told.found_load;
      only_load = told.only_load;
      spent = told.spent;
      least = told.least;
      bound = told.bound;
    })).least

pub returns-clause-bound : goal.returns-clause-bound
returns-clause-bound g c =
    let told = c.in_ok-numbered.ensures in
    rw c.first_of.ensures
    (first_answers (g.S.Space.live c.args.space.now) (g.S.Space.height c.args.space.now) c.args.budget
    c.in_ok-numbered.numbered
    (record {
      found = told.found;
      only = told.only;
      over = told.over;
      found_load = told.found_load;
      only_load = told.only_load;
      spent = told.spent;
      least = told.least;
      bound = told.bound;
    })).bound
