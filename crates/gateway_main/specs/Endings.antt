-- How the program ends, and with which status. Own choice.
use Rattle.std.specs.Prelude.{ℕ, Result, Ok, Err}
use Rattle.std.specs.declared.io.ErrorKind.{ErrorKind as IoErrorKind}
use Rattle.std.specs.declared.io.ErrorKind.TheVariants as io
use Rattle.clap.specs.Words.{kind_of}
use Rattle.clap.specs.declared.error.Error.{Error}
use Rattle.clap.specs.declared.error.ErrorKind.{ErrorKind}
use Rattle.clap.specs.declared.error.ErrorKind.TheVariants.{DisplayHelp, DisplayVersion, OutOfMemory}
use Rattle.sqlite.specs.declared.error.Error.{Error as StoreError}
use Rattle.gateway_cli.specs.declared.CommandLineFault.{CommandLineFault}
use Rattle.gateway_cli.specs.declared.CommandLineFault.TheVariants.{BadBase, ClapError}
use Rattle.gateway_main.specs.declared.ending.Ending.{Ending}
use Rattle.gateway_main.specs.declared.ending.Ending.TheVariants.{Failed, NotText, CommandLine}
use Rattle.gateway_main.specs.declared.fault.Fault.{Fault}
use Rattle.gateway_main.specs.declared.fault.Fault.TheVariants.{Run}
use Rattle.gateway_loop.specs.declared.run_result.RunFault.{RunFault}
use Rattle.gateway_loop.specs.declared.run_result.Summary.{Summary}
use Rattle.gateway_main.specs.Faults.{fault_of_store, memory_fault}

-- if the arguments of the process are not available: out of memory, or one is not text
abbrev pub ending_if_no_arguments : IoErrorKind → Ending
ending_if_no_arguments io.OutOfMemory = Failed memory_fault
ending_if_no_arguments _ = NotText

-- the ending for an error of `clap`, by its kind
abbrev pub ending_of_clap_error : ErrorKind → Error → Ending
ending_of_clap_error OutOfMemory error = Failed memory_fault
ending_of_clap_error _ error = CommandLine (ClapError error)

-- if the command line is rejected, or asks for help or for the version
abbrev pub ending_of_command_line : CommandLineFault → Ending
ending_of_command_line BadBase = CommandLine BadBase
ending_of_command_line (ClapError error) = ending_of_clap_error (kind_of error) error

-- the fault for which nothing ran, otherwise that of the run, otherwise that of closing its database
abbrev pub done_or_first_fault_of : {A : Type 0} → Result (Result Summary RunFault) Fault → Result A StoreError
    → Result A Fault
done_or_first_fault_of (Err fault) closed = Err fault
done_or_first_fault_of (Ok (Err stopped)) closed = Err (Run stopped)
done_or_first_fault_of (Ok (Ok summary)) (Err error) = Err (fault_of_store error)
done_or_first_fault_of (Ok (Ok summary)) (Ok closed) = Ok closed

-- 0 for help and the version; 2 for a command line that is rejected
abbrev pub status_of_kind : ErrorKind → ℕ
status_of_kind DisplayHelp = 0
status_of_kind DisplayVersion = 0
status_of_kind _ = 2

-- 0 if the program did what it was asked, 1 for a fault, 2 for a command line that is rejected
abbrev pub status_of : {A : Type 0} → Result A Ending → ℕ
status_of (Ok done) = 0
status_of (Err (Failed fault)) = 1
status_of (Err NotText) = 2
status_of (Err (CommandLine BadBase)) = 2
status_of (Err (CommandLine (ClapError error))) = status_of_kind (kind_of error)
