-- The fault that a call gives for a fault of the call below it.
use Rattle.osn_live.specs.declared.faults.AskFault.{AskFault}
use Rattle.osn_live.specs.declared.faults.AskFault.TheVariants as Ask
use Rattle.osn_live.specs.declared.faults.DeskFault.{DeskFault}
use Rattle.osn_live.specs.declared.faults.DeskFault.TheVariants as Desk
use Rattle.osn_live.specs.declared.faults.OpenFault.{OpenFault}
use Rattle.osn_live.specs.declared.faults.OpenFault.TheVariants as Open
use Rattle.osn_live.specs.declared.work_fault.WorkFault.{WorkFault}
use Rattle.osn_live.specs.declared.work_fault.WorkFault.TheVariants as Work

abbrev pub by_ask : AskFault → WorkFault
by_ask Ask.NoMemory = Work.NoMemory
by_ask Ask.NoPlace = Work.NoPlace

abbrev pub by_work : WorkFault → DeskFault
by_work Work.NoMemory = Desk.NoMemory
by_work Work.NoPlace = Desk.NoPlace
by_work Work.GateClosed = Desk.GateClosed

abbrev pub by_open : OpenFault → DeskFault
by_open Open.NoMemory = Desk.NoMemory
by_open Open.BadCount = Desk.BadCount
by_open Open.NoPlace = Desk.NoPlace
