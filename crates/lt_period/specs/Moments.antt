-- In which period a timestamp lies, as seen from a moment.
use Rattle.std.specs.Prelude.{ℕ, ◌-◌, ◌%◌, nat_le, if◌then◌else◌}
use Rattle.lt_rec.specs.Periods.{Stretch, four_hours, a_day, a_week}

-- the last multiple of the length that isn't above the moment
abbrev pub aligned : ℕ → ℕ → ℕ
aligned moment len = moment - moment % len

-- four hours from the start of the moment's day on, a day from the start of its week up to that, and a week before
abbrev pub len_at : ℕ → ℕ → ℕ
len_at ts now =
    if nat_le (aligned now a_day) ts then four_hours
    else (if nat_le (aligned now a_week) ts then a_day else a_week)

abbrev pub period_at : ℕ → ℕ → Stretch
period_at ts now = record { start = aligned ts (len_at ts now); len = len_at ts now }
