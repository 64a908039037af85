-- What holds of a day at all times: levels fit, and all that runs ends after the clock, within the span.
use Rattle.std.specs.Prelude.{ℕ, ◌+◌, ◌<◌, ◌≤◌}
use Rattle.watches.specs.declared.state.Watch.{Watch}
use Rattle.watches.specs.declared.state.Watch.TheVariants.{Idle, Running}
use Rattle.watches.specs.declared.state.Phase.{Phase}
use Rattle.watches.specs.declared.state.Phase.TheVariants.{Open, Halted}
use Rattle.watches.specs.declared.state.Band.{Band}
use Rattle.watches.specs.Words.{span}

-- 1 for a watch that runs: with it a side's level is the one that it has once the watch has ended.
abbrev pub runs : Watch → ℕ
runs Idle = 0
runs (Running e) = 1

-- When a watch or a halt ends, or z where none runs.
abbrev pub watch_end_or : ℕ → Watch → ℕ
watch_end_or z Idle = z
watch_end_or z (Running e) = e

abbrev pub halt_end_or : ℕ → Phase → ℕ
halt_end_or z Open = z
halt_end_or z (Halted e) = e

-- A level is at least 1 and fits a byte, also once the watch has ended.
abbrev pub SideSound : ℕ → Band → Type 0
SideSound clock b =
    (1 ≤ b.level) × (b.level + runs b.watch ≤ 255)
    × (clock < watch_end_or (clock + 1) b.watch) × (watch_end_or clock b.watch ≤ clock + span)

abbrev pub HaltSound : ℕ → Phase → Type 0
HaltSound clock p = (clock < halt_end_or (clock + 1) p) × (halt_end_or clock p ≤ clock + span)
