-- The faults of a line, and of a line of a file, by number and name: this project's profile.
use Rattle.std.specs.Prelude.{ℕ, List, codes}
use Rattle.osn_request.specs.declared.wire_fault.WireFault.{WireFault}
use Rattle.osn_request.specs.declared.wire_fault.WireFault.TheVariants.{LineTooLong, NotJson}
use Rattle.osn_request.specs.declared.wire_fault.WireFault.TheVariants.{NotObject, BadField}
use Rattle.osn_request.specs.declared.wire_fault.WireFault.TheVariants.{UnknownOp, UnknownReader}
use Rattle.osn_request.specs.declared.wire_fault.WireFault.TheVariants.{BadHead, UnknownStep}
use Rattle.osn_request.specs.declared.wire_fault.WireFault.TheVariants.{NotAQuery, WrongReply}
use Rattle.osn_request.specs.declared.wire_fault.WireFault.TheVariants.{UnknownEdition, EditionFell}
use Rattle.osn_request.specs.declared.wire_fault.WireFault.TheVariants.{ReadOnly, NeedsUpgrade}

abbrev pub wire_fault_number : WireFault → ℕ
wire_fault_number LineTooLong = 31
wire_fault_number NotJson = 32
wire_fault_number NotObject = 33
wire_fault_number (BadField m) = 34
wire_fault_number UnknownOp = 35
wire_fault_number UnknownReader = 36
wire_fault_number BadHead = 37
wire_fault_number UnknownStep = 38
wire_fault_number NotAQuery = 41
wire_fault_number WrongReply = 42
wire_fault_number UnknownEdition = 43
wire_fault_number EditionFell = 44
wire_fault_number ReadOnly = 45
wire_fault_number NeedsUpgrade = 46

abbrev pub wire_fault_name : WireFault → List ℕ
wire_fault_name LineTooLong = codes "LineTooLong"
wire_fault_name NotJson = codes "NotJson"
wire_fault_name NotObject = codes "NotObject"
wire_fault_name (BadField m) = codes "BadField"
wire_fault_name UnknownOp = codes "UnknownOp"
wire_fault_name UnknownReader = codes "UnknownReader"
wire_fault_name BadHead = codes "BadHead"
wire_fault_name UnknownStep = codes "UnknownStep"
wire_fault_name NotAQuery = codes "NotAQuery"
wire_fault_name WrongReply = codes "WrongReply"
wire_fault_name UnknownEdition = codes "UnknownEdition"
wire_fault_name EditionFell = codes "EditionFell"
wire_fault_name ReadOnly = codes "ReadOnly"
wire_fault_name NeedsUpgrade = codes "NeedsUpgrade"
