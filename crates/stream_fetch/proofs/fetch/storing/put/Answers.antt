use Rattle.std.proofs.Common.{◌≡◌, ◌+◌, ◌-◌, ℕ, refl, arith}
use Rattle.stream_fetch.proofs.Putting.{put_is}
use Rattle.stream_fetch.proofs.fetch.storing.put.Goals as goal

size : (place most : ℕ) → place + most - place ≡ most
size place most = omega arith

pub returns-clause-memory : goal.returns-clause-memory
returns-clause-memory c =
    put_is c.args.place c.args.most (c.args.place + c.args.most - c.args.place) c.read_into.result c.args.memory.now c.args.fifo.now.items _ c.read_into.new.dst c.requires (size c.args.place c.args.most) refl
    c.read_into.ensures.count c.read_into.ensures.read
