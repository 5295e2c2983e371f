-- `lent::put` meets its contract. The invariant: the first i bytes are put.
-- Assumes nothing.
use mathlib.Core.Path.{◌≡◌, refl, sym, ap, ◌∙◌}
use mathlib.Core.Bool.{false}
use mathlib.Core.List.{List, ◌++◌}
use Prim.Native.Nat.{ℕ, suc, ◌+◌, ◌<◌}
use native.Mathlib.Omega.{arith}
use lib.ListN.{length, get_or, set, take, drop, length-set}
use lib.Seq.{paste, paste-zero, paste-suc, take-length}
use borrow.Author.Tests.{le-leb, lt-leb}
use Rattle.units.specs.Put.{fits, put_into}
use Rattle.units.proofs.Put.{unchanged, put_between}
use Rattle.lent.proofs.put.Goals as goal

refused : (bytes : List ℕ) (at : ℕ) (memory : List ℕ) → length memory < at + length bytes
    → (false ≡ fits memory at bytes) × (memory ≡ put_into memory at bytes)
refused bytes at memory h =
    let none = lt-leb (at + length bytes) (length memory) h in
    (sym none, sym (unchanged memory at bytes none))

pub returns-then-memory-at : goal.returns-then-memory-at
returns-then-memory-at c =
    let a = c.args in
    refused a.bytes.now a.at a.memory.now (omega arith)

pub returns-then-memory-at-2 : goal.returns-then-memory-at-2
returns-then-memory-at-2 c =
    let a = c.args in
    refused a.bytes.now a.at a.memory.now (omega arith)

pub loop-i-init : goal.loop-i-init
loop-i-init c =
    let a = c.args in
    (refl, paste-zero a.memory.now a.at a.bytes.now)

pub loop-i-preserved : goal.loop-i-preserved
loop-i-preserved c =
    let loop = c.loop-i in
    let a = c.args in
    let one : suc loop.i ≡ loop.i + 1 = omega arith in
    let x : ℕ = get_or a.bytes.now loop.i 0 in (
      length-set loop.memory (a.at + loop.i) x ∙ loop.invariant.0,
      ap (λ (m : List ℕ). set m (a.at + loop.i) x) loop.invariant.1
          ∙ paste-suc a.memory.now a.at a.bytes.now loop.i 0 (omega arith) (omega arith)
          ∙ ap (paste a.memory.now a.at a.bytes.now) one,
    )

pub shape_of-memory : goal.shape_of-memory
shape_of-memory c = c.loop-i.invariant.0

pub returns : goal.returns
returns c =
    let loop = c.loop-i in
    let a = c.args in
    let all : loop.i ≡ length a.bytes.now = omega arith in
    let fit = le-leb (a.at + length a.bytes.now) (length a.memory.now) (omega arith) in
    let rest : List ℕ = drop (a.at + length a.bytes.now) a.memory.now in (
      sym fit,
      loop.invariant.1
          ∙ ap (paste a.memory.now a.at a.bytes.now) all
          ∙ ap (λ (x : List ℕ). take a.at a.memory.now ++ x ++ rest) (take-length a.bytes.now)
          ∙ sym (put_between a.memory.now a.at a.bytes.now fit),
    )
