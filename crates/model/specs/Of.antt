-- From the program's roster to what it says.
use Rattle.model.specs.declared.roster.Roster.{Roster}
use Rattle.model.specs.Held.{held}
use Rattle.model.specs.System.{System, system}

abbrev pub of : Roster → System
of r = system (held r.steps) r.switch (held r.tasks) (held r.sections)
