-- `descriptors::descriptor` meets its contract: each kind has its table's function, and an unknown one any bytes.
-- Assumes nothing.
use Prim.Native.Nat.{◌-◌, ◌*◌}
use native.Mathlib.Omega.{arith}
use Rattle.bits.specs.Bits.{bit}
use Rattle.grammar.specs.Tables.{avail_descriptor, time_descriptor}
use Rattle.grammar.proofs.Ending.{last_rows}
use Rattle.grammar.proofs.Run.{filled_last, swept_bytes}
use Rattle.segmentation.proofs.Ends.{runs}
use Rattle.descriptors.specs.Walk.{table_of}
use Rattle.descriptors.proofs.descriptor.Goals as goal

pub returns-in-Avail : goal.returns-in-Avail
unfolding table_of avail_descriptor
returns-in-Avail c env =
    let a = c.args.part in
    rw c.in-Avail.is (last_rows a.at a.end 4 c.after.result c.after.ensures.there c.after.ensures.too_few (omega arith))

pub returns-in-Dtmf : goal.returns-in-Dtmf
unfolding table_of
returns-in-Dtmf c env = rw c.in-Dtmf.is (c.dtmf_descriptor.ensures env)

pub returns-in-Segmentation : goal.returns-in-Segmentation
unfolding table_of
returns-in-Segmentation c env =
    let a = c.args.part in
    rw c.in-Segmentation.is (runs a.s.now a.at a.end (omega arith) (omega arith) c.segmentation_descriptor.ensures env)

pub returns-in-Time : goal.returns-in-Time
unfolding table_of time_descriptor
returns-in-Time c env =
    let a = c.args.part in
    rw c.in-Time.is (last_rows a.at a.end 12 c.after-in-Time.result c.after-in-Time.ensures.there c.after-in-Time.ensures.too_few (omega arith))

pub returns-in-Audio : goal.returns-in-Audio
unfolding table_of
returns-in-Audio c env = rw c.in-Audio.is (c.audio_descriptor.ensures env)

pub returns-in-Unknown : goal.returns-in-Unknown
unfolding table_of
returns-in-Unknown c env =
    let a = c.args.part in
    rw c.in-Unknown.is
    (filled_last (swept_bytes "private_byte" env (bit a.s.now) (8 * a.end) (a.end - a.at) (8 * a.at) (omega arith)))
