use Rattle.std.proofs.Common.{◌+◌, arith, take}
use Rattle.std.specs.Io.KnownBytes.{Appends}
use Rattle.com_io.proofs.WriteLemmas.{appends_piece, appends_kept, slice_rest, slice_length}
use Rattle.com_io.proofs.adapter.write_counted.Goals as goal
use Rattle.com_io.proofs.adapter.write_counted.Goals.{in-Ok-write, in-Err-write+else-ne}

pub loop-preserved : goal.loop-preserved
loop-preserved g c =
    let first = g.W.Write.contents c.args.to.now in
    let mid = g.W.Write.contents c.loop.to in
    let last = g.W.Write.contents c.write.new.self in
    elim c.match-write.branch [
      | in-Ok-write w ↦
          let n = w.in-Ok-write.count in
          let so_far : Appends first last (take (c.loop.written + n) c.args.bytes.now) =
          appends_piece first mid last c.args.bytes.now c.loop.written n c.loop.invariant.written (rw slice_rest at w.in-Ok-write.ensures.bytes) in
          record { written = rw w.written-is so_far; within = omega (arith, w.in-Ok-write.ensures.bound, slice_length c.args.bytes.now c.loop.written); kept = c.loop.invariant.kept }
      | in-Err-write+else-ne w ↦
          record {
            written = rw w.written-is (appends_kept first mid last (take c.loop.written c.args.bytes.now) c.loop.invariant.written w.in-Err-write.ensures.bytes);
            within = omega arith;
            kept = c.loop.invariant.kept;
          }
    ]
