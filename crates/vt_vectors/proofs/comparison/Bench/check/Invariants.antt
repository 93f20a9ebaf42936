use Rattle.std.proofs.Common.{◌≤◌, ◌*◌, length, take, vec_len, vec_capacity}
use Rattle.vt_vectors.specs.Bench.{IsReady, HasPlayed}
use Rattle.vt_vectors.proofs.comparison.Bench.check.Given as goal

abbrev pub invariant-loop-at : goal.invariant-loop-at
invariant-loop-at l = record {
  ready : IsReady l.self;
  played : HasPlayed (take l.at l.v.input.now) l.self;
  reports : vec_len l.self.reports ≤ 10 * l.at;
  room : 10 * length l.v.input.now ≤ vec_capacity l.self.reports;
}

abbrev pub invariant-loop-cut : goal.invariant-loop-cut
invariant-loop-cut l = record {
  ready : IsReady l.self;
  room : 10 * length l.v.input.now ≤ vec_capacity l.self.reports;
}
