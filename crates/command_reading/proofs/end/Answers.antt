-- `command_reading::end` meets its contract: in more bytes than a section may have there is no command.
-- Assumes nothing.
use mathlib.Core.Path.{◌≡◌, sym, ◌∙◌}
use mathlib.Core.Bool.{false≢true}
use mathlib.Core.List.{List}
use mathlib.Core.Logic.{⊎_elim}
use Prim.Native.Nat.{ℕ, ◌≤◌, ◌<◌}
use lib.ListN.{length}
use lib.Dec.{leb}
use borrow.Author.Tests.{le-leb, lt-leb, lt-ltb, le-ltb}
use Rattle.bits.proofs.Cases.{le_or_lt, is_false, and_right}
use Rattle.grammar.specs.Meaning.{breach, end_of, run}
use Rattle.commands.specs.Command.{command_end}
use Rattle.command_reading.specs.Command.{is_of_size, command_reading}
use borrow.Author.Rules.{rules}
use Rattle.command_reading.proofs.end.Goals as goal

too_long : (s : List ℕ) → 4096 < length s → breach 0 ≡ end_of (command_reading s)
unfolding command_reading end_of
too_long s h =
    rw
    (is_false (is_of_size s)
    (λ e. false≢true (sym (lt-leb (length s) 4096 h) ∙ and_right (leb 20 (length s)) (leb (length s) 4096) e)))

same_end : (s : List ℕ) → length s ≤ 4096 → command_end s ≡ end_of (command_reading s)
unfolding command_end command_reading end_of run
same_end s h =
    ⊎_elim (λ long. rw (le-ltb (length s) 20 long, le-leb 20 (length s) long, le-leb (length s) 4096 h))
    (λ short. rw (lt-ltb (length s) 20 short, lt-leb 20 (length s) short))
    (le_or_lt 20 (length s))

pub returns-then-s-gt-MOST_SECTION : goal.returns-then-s-gt-MOST_SECTION
returns-then-s-gt-MOST_SECTION c = too_long c.args.s.now c.if-s-gt-MOST_SECTION.true

pub returns : goal.returns
returns c = c.command_end.ensures ∙ same_end c.args.s.now (search rules)
