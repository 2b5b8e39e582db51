use Rattle.std.proofs.Common.{◌≡◌, ◌+◌, ◌-◌, ◌++◌}
use Rattle.std.specs.List.{range_with_len}
use Rattle.gopher_catalogue.proofs.frontier.queue.Queue.push_range.Given as goal

abbrev pub invariant-loop-number : goal.invariant-loop-number
invariant-loop-number l =
    record {
      waiting : l.self.waiting ≡ l.initial.self.waiting ++ range_with_len l.first (l.number - l.first);
      room : l.self.room + (l.number - l.first) ≡ l.initial.self.room;
    }
