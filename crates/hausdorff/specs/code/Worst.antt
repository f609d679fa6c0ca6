-- The worst so far of a side, computed.
use Rattle.std.specs.Prelude.{ℕ, Bool, cond, not, ◌&&◌, ◌||◌, ltb, Option, None, Some}
use Rattle.integers.specs.Fraction.{is_less}
use Rattle.hausdorff.specs.declared.CornerGap.{CornerGap}

-- a corner takes the place of another of its side: its gap is greater, or equal and its number as given, `shown`,
-- lower. The rule goes by the corner alone, not by when it was found
abbrev pub takes_place : (ℕ → ℕ) → CornerGap → CornerGap → Bool
takes_place shown new old =
    is_less old.gap new.gap
    || (not (is_less new.gap old.gap) && ltb (shown new.corner) (shown old.corner))

-- the worst so far of a side, with what a step adds
abbrev pub keep : (ℕ → ℕ) → Option CornerGap → Option CornerGap → Option CornerGap
keep shown None new = new
keep shown (Some old) None = Some old
keep shown (Some old) (Some new) = Some (cond (takes_place shown new old) new old)
