use Rattle.std.proofs.Common.{rules, subst, sym}
use Rattle.com_journal.specs.Lines.{IsLine}
use Rattle.com_journal.proofs.LineLengths.{short_line}
use Rattle.com_disk.specs.Logs.{IsAt, IsShut, IsBeforeOrAfter, Stands, log_bytes, record_of}
use Rattle.com_disk.specs.inner.Shut.{IsShutOrLonger}
use Rattle.com_disk.proofs.Moments.{leaves_more}
use Rattle.com_disk.proofs.Entries.{shut_at, gate_within, still_at, more_at, before_or_after, stands, both_ok}
use Rattle.com_disk.proofs.log.append.Goals as goal

pub append_line-requires-clause-short : goal.append_line-requires-clause-short
append_line-requires-clause-short g c = short_line c.args.entry.now _ (search rules)

pub append_line-requires-clause-gate : goal.append_line-requires-clause-gate
append_line-requires-clause-gate g c t =
    let held = c.requires.at t in
    gate_within g.D.Disk.content g.D.Disk.images c.args.log.now held.0 c.args.disk.now held.1

pub returns-clause-at : goal.returns-clause-at
returns-clause-at g c =
    let content = g.D.Disk.content in
    let images = g.D.Disk.images in
    let log = c.args.log.now in
    let entry = c.args.entry.now in
    let is_line : IsLine entry c.as_slice.result.now = search rules in
    both_ok _ _ _ c.append_line.result c.append_line.ensures.at c.append_line.ensures.bytes (λ at longer t entries h.
    let front = log_bytes log.version h.stands.lines in
    more_at content images log entries c.args.disk.now h c.append_line.new.disk entry c.as_slice.result.now c.append_line.new.log _ is_line
    (at t front (shut_at content images log entries c.args.disk.now h)) c.append_line.ensures.version longer)

pub returns-clause-still : goal.returns-clause-still
returns-clause-still g c failed t entries h =
    let content = g.D.Disk.content in
    let images = g.D.Disk.images in
    let log = c.args.log.now in
    let front = log_bytes log.version h.stands.lines in
    let shut = c.append_line.ensures.still failed t front (shut_at content images log entries c.args.disk.now h) in
    subst (λ l. IsAt content images l c.append_line.new.disk entries) (sym (c.append_line.ensures.memory failed)) (still_at content images log entries c.args.disk.now h c.append_line.new.disk shut)

pub returns-clause-any_moment : goal.returns-clause-any_moment
returns-clause-any_moment g c t entries h =
    let disk = g.D.Disk in
    let log = c.args.log.now in
    let entry = c.args.entry.now in
    let line = c.as_slice.result.now in
    let is_line : IsLine entry line = search rules in
    let front = log_bytes log.version h.stands.lines in
    let any = c.append_line.ensures.any_moment t front (shut_at disk.content disk.images log entries c.args.disk.now h) in
    leaves_more disk.moment disk.since c.args.disk.now c.append_line.new.disk (IsShutOrLonger front (record_of line)) (IsBeforeOrAfter log.version entries entry)
    (before_or_after (disk.content c.args.disk.now) log.version entries h.stands entry line is_line) any

pub returns-clause-no_moment : goal.returns-clause-no_moment
returns-clause-no_moment g c failed t entries h =
    let disk = g.D.Disk in
    let log = c.args.log.now in
    let front = log_bytes log.version h.stands.lines in
    let any = c.append_line.ensures.no_moment failed t front (shut_at disk.content disk.images log entries c.args.disk.now h) in
    leaves_more disk.moment disk.since c.args.disk.now c.append_line.new.disk (IsShut front) (λ f. Stands f log.version entries)
    (stands (disk.content c.args.disk.now) log.version entries h.stands) any
