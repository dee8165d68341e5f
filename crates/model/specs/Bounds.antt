-- The numbers that the rules of a roster name.
use Rattle.std.specs.Prelude.{ℕ}

abbrev pub max_steps : ℕ
max_steps = 8

-- clocks in kHz
abbrev pub min_clock : ℕ
min_clock = 1_000

abbrev pub max_clock : ℕ
max_clock = 2_000_000

-- voltages in centivolts
abbrev pub max_voltage : ℕ
max_voltage = 500

-- times in microseconds
abbrev pub max_switch : ℕ
max_switch = 1_000_000

abbrev pub max_period : ℕ
max_period = 100_000_000

abbrev pub max_cycles : ℕ
max_cycles = 100_000_000

abbrev pub max_priority : ℕ
max_priority = 255

abbrev pub max_resource : ℕ
max_resource = 7

abbrev pub max_tasks : ℕ
max_tasks = 16

abbrev pub max_sections : ℕ
max_sections = 32
