-- `text::decode::put_groups` meets its contract. The loop's invariant: every character passed is of the alphabet, the bytes of the
-- groups passed fill the front of `own`, and the rest is as it was.
-- Assumes nothing.
use mathlib.Core.Path.{refl, sym, ◌∙◌}
use mathlib.Core.Bool.{false≢true}
use Prim.Native.Nat.{ℕ, ◌+◌, ◌*◌, ◌^◌, ◌<◌}
use native.Mathlib.Omega.{arith}
use lib.ListN.{get_or, length-set}
use Rattle.bits.specs.Bits.{byte_of, bytes_of}
use Rattle.base64_rules.specs.Base64.{sextet}
use Rattle.text.specs.Text.{before, text_bit}
use Rattle.base64_rules.proofs.AllOf.{all_each}
use Rattle.base64_rules.proofs.Counts.{before_le}
use Rattle.base64_rules.proofs.Padding.{padding_le}
use Rattle.base64_rules.proofs.Fill.{fill_none, fill_same, fill_more}
use Rattle.base64_rules.proofs.TextBits.{byte_cut}
use Rattle.text.proofs.Groups.{bits, passed, refused}
use Rattle.text.proofs.decode.put_groups.Goals as goal

pub loop-q-init : goal.loop-q-init
loop-q-init c =
    let start = c.args in
    ((λ i l. absurd (omega arith)), fill_none (byte_of (text_bit start.text.now)) start.own.now)

pub group-v-requires : goal.group-v-requires
unfolding before
group-v-requires c =
    let start = c.args in
    (omega arith, omega (arith, padding_le start.text.now))

pub returns-then-v-ge-OUTSIDE : goal.returns-then-v-ge-OUTSIDE
returns-then-v-ge-OUTSIDE c = (
  sym (refused c.args.text.now c.args.n c.requires.1 c.loop-q.q (omega arith) (omega (arith, c.group-v.ensures))),
  λ e. absurd (false≢true e),
)

pub bounds-own-q-in-loop-q : goal.bounds-own-q-in-loop-q
bounds-own-q-in-loop-q c = simp length-set (omega arith)

pub bounds-own-q-in-loop-q-2 : goal.bounds-own-q-in-loop-q-2
bounds-own-q-in-loop-q-2 c = simp length-set (omega arith)

pub loop-q-preserved : goal.loop-q-preserved
loop-q-preserved c =
    let at = c.loop-q in
    let text = c.args.text.now in
    let q = at.q in
    let group = c.group-v in
    let fine : group.result < 2 ^ 24 = omega arith in
    let low_bits = group.ensures ∙ bits text c.args.n c.requires.1 (4 * q) (omega arith) (omega (arith, group.ensures)) in
    let fill = fill_more (byte_of (text_bit text)) c.args.own.now in
    let byte = byte_cut text q group.result in
    let first =
    fill _ (3 * q) (3 * q + 1) _ refl (omega arith) at.invariant.1
    (c.low.ensures ∙ byte (3 * q) 0 16 _ low_bits refl (omega arith) refl) in
    let second =
    fill _ (3 * q + 1) (3 * q + 2) _ (omega arith) (omega arith) first
    (c.low-in-loop-q.ensures ∙ byte (3 * q + 1) 8 8 _ low_bits refl (omega arith) refl) in
    let third =
    fill _ (3 * q + 2) (3 * (q + 1)) _ (omega arith) (omega arith) second
    (c.low-in-loop-q-2.ensures ∙ byte (3 * q + 2) 16 0 _ low_bits refl (omega arith) (omega arith)) in
    (passed text c.args.n c.requires.1 q at.invariant.0 (omega (arith, group.ensures)), third)

pub returns : goal.returns
unfolding bytes_of
returns c =
    let text = c.args.text.now in
    let all : (i : ℕ) → i < before text → sextet (get_or text i 0) < 64 =
    λ i l. c.loop-q.invariant.0 i (omega (arith, before_le text)) (omega arith) in (
      sym (all_each text (before text) (before_le text) all),
      λ e. fill_same (byte_of (text_bit text)) _ _ _ _ (omega arith) c.loop-q.invariant.1,
    )
