-- What a handle stands for.
use Rattle.std.specs.Prelude.{Option}
use Rattle.dmix_c.specs.declared.handle.Handle.{Handle}
use Rattle.dmix_c.specs.declared.opened.Opened.{Opened}

-- what was opened by the handle, and nothing while it is closed
abbrev pub stands_for : Handle → Option Opened
stands_for handle = handle.held.value
