use Rattle.std.proofs.Common.{arith, refl, ap, length, length-append}
use Rattle.std.specs.Io.KnownBytes.{Consumes}
use Rattle.com_io.specs.Reads.{ReadsChunk}
use Rattle.com_io.proofs.ReadLemmas.{consumes_more, read_full, read_end, taken_by, taken_behind}
use Rattle.com_io.proofs.files.read_to_limit.Goals as goal
use Rattle.com_io.proofs.files.read_to_limit.Goals.{else-loop-buffer-test, then-loop-buffer-test+in_ok-read_chunk+then-branch-eq0}

pub returns-in_err-read_chunk-clause-taken : goal.returns-in_err-read_chunk-clause-taken
returns-in_err-read_chunk-clause-taken g c =
    taken_behind c.args.limit (g.R.Source.left c.args.source.now) (g.R.Source.left c.loop-buffer.source) (g.R.Source.left c.read_chunk.new.source) c.loop-buffer.bytes.items c.loop-buffer.invariant.read
    c.read_chunk.ensures.taken

pub returns-clause-read : goal.returns-clause-read
returns-clause-read g c =
    let told = g.R.Source.left c.args.source.now in
    elim c.loop-buffer-test.branch [
      | else-loop-buffer-test w ↦ rw (w.source-is, w.bytes-is) (read_full c.args.limit told (g.R.Source.left c.loop-buffer.source) c.loop-buffer.bytes.items c.loop-buffer.invariant.read (omega arith))
      | then-loop-buffer-test+in_ok-read_chunk+then-branch-eq0 w ↦
          let r : ReadsChunk c.args.limit 0 c.loop-buffer.bytes.items w.read_chunk.new.bytes.items (g.R.Source.left c.loop-buffer.source) (g.R.Source.left w.read_chunk.new.source) = rw w.if-branch-eq0.true at w.in_ok-read_chunk.ensures.read in
          let all : Consumes told (g.R.Source.left w.read_chunk.new.source) w.read_chunk.new.bytes.items =
          rw r.appended (consumes_more told (g.R.Source.left c.loop-buffer.source) (g.R.Source.left w.read_chunk.new.source) c.loop-buffer.bytes.items r.chunk c.loop-buffer.invariant.read r.taken) in
          rw (w.source-is, w.bytes-is) (read_end c.args.limit told (g.R.Source.left w.read_chunk.new.source) w.read_chunk.new.bytes.items all (omega (arith, r.short, r.many, ap length r.appended, length-append c.loop-buffer.bytes.items r.chunk)) (r.ended refl))
    ]

pub returns-clause-taken : goal.returns-clause-taken
returns-clause-taken g c =
    let told = g.R.Source.left c.args.source.now in
    elim c.loop-buffer-test.branch [
      | else-loop-buffer-test w ↦ rw (w.source-is) (taken_by c.args.limit 0 told (g.R.Source.left c.loop-buffer.source) c.loop-buffer.bytes.items c.loop-buffer.invariant.read (omega arith))
      | then-loop-buffer-test+in_ok-read_chunk+then-branch-eq0 w ↦
          rw (w.source-is)
          (taken_behind c.args.limit told (g.R.Source.left c.loop-buffer.source) (g.R.Source.left w.read_chunk.new.source) c.loop-buffer.bytes.items c.loop-buffer.invariant.read w.read_chunk.ensures.taken)
    ]
