-- What the contracts say of the corpus text.
use Rattle.std.specs.Prelude.{ℕ, ◌-◌, Option, Some, None, cond, leb, ◌&&◌}

-- the value of a hex digit, 0 to 9 and a to f
abbrev pub hex_value : ℕ → Option ℕ
hex_value c = cond (leb 48 c && leb c 57) (Some (c - 48)) (cond (leb 97 c && leb c 102) (Some (c - 87)) None)
