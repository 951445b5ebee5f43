use Rattle.csn_lines.proofs.output.flush.Goals as goal

pub returns-in-Took-clause-flushes : goal.returns-in-Took-clause-flushes
returns-in-Took-clause-flushes g c = record {
  before = c.args.out.now;
  answer = c.flush.result;
  given = c.flush.ensures.gives;
  taken_stays = c.flush.ensures.taken_stays;
  done = c.flush.ensures.flushed_all;
}

pub returns-in-Failed-clause-flushes : goal.returns-in-Failed-clause-flushes
returns-in-Failed-clause-flushes g c = record {
  before = c.args.out.now;
  answer = c.flush.result;
  given = c.flush.ensures.gives;
  taken_stays = c.flush.ensures.taken_stays;
  done = c.flush.ensures.flushed_all;
}

pub returns-in-NoMemory-clause-flushes : goal.returns-in-NoMemory-clause-flushes
returns-in-NoMemory-clause-flushes g c = record {
  before = c.args.out.now;
  answer = c.flush.result;
  given = c.flush.ensures.gives;
  taken_stays = c.flush.ensures.taken_stays;
  done = c.flush.ensures.flushed_all;
}
