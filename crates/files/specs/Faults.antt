-- The number and the layer of a fault, by its cause, and where it is.
use Rattle.std.specs.Prelude.{ℕ}
use Rattle.model.specs.Refusals.{steps_number, roster_number}
use Rattle.model.specs.declared.refusals.RosterRefusal.{RosterRefusal}
use Rattle.model.specs.declared.refusals.StepsRefusal.{StepsRefusal}
use Rattle.files.specs.declared.fault.Cause.{Cause}
use Rattle.files.specs.declared.fault.Cause.TheVariants as causes
use Rattle.files.specs.declared.fault.Fault.{Fault}
use Rattle.files.specs.declared.fault.FileRefusal.{FileRefusal}
use Rattle.files.specs.declared.fault.FileRefusal.TheVariants as refusals
use Rattle.files.specs.declared.fault.Layer.{Layer}
use Rattle.files.specs.declared.fault.Layer.TheVariants as layers
use Rattle.files.specs.declared.fault.Place.{Place}
use Rattle.files.specs.declared.fault.Place.TheVariants as places

abbrev pub file_number : FileRefusal → ℕ
file_number refusals.Layout = 19
file_number refusals.Names = 20
file_number refusals.Count = 21
file_number refusals.Value = 22

abbrev pub cause_number : Cause → ℕ
cause_number (causes.Steps e) = steps_number e
cause_number (causes.Roster e) = roster_number e
cause_number (causes.File e) = file_number e

abbrev pub layer_of : Cause → Layer
layer_of (causes.Steps _) = layers.Roster
layer_of (causes.Roster _) = layers.Roster
layer_of (causes.File refusals.Layout) = layers.File
layer_of (causes.File refusals.Names) = layers.Line
layer_of (causes.File refusals.Count) = layers.Line
layer_of (causes.File refusals.Value) = layers.Value

-- the numbers of a place, 0 where it has none
abbrev pub line_of : Place → ℕ
line_of places.File = 0
line_of (places.Line line) = line
line_of (places.Item line item) = line

abbrev pub item_of : Place → ℕ
item_of places.File = 0
item_of (places.Line line) = 0
item_of (places.Item line item) = item

-- a fault of the file's layout at a line, and one of a value at an item
abbrev pub at_line : FileRefusal → ℕ → Fault
at_line e n = record { cause = causes.File e; place = places.Line n }

abbrev pub at_item : ℕ → ℕ → Fault
at_item n i = record { cause = causes.File refusals.Value; place = places.Item n i }

-- a fault of a value, at any place
abbrev pub of_value : Place → Fault
of_value p = record { cause = causes.File refusals.Value; place = p }

-- a step table or a record that a rule of rosters refuses
abbrev pub of_steps : StepsRefusal → ℕ → Fault
of_steps e n = record { cause = causes.Steps e; place = places.Line n }

abbrev pub of_roster : RosterRefusal → ℕ → Fault
of_roster e n = record { cause = causes.Roster e; place = places.Line n }
