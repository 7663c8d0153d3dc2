-- A call as a store in memory keeps it.
use Rattle.std.specs.Prelude.{string_bytes}
use Rattle.com_io.specs.declared.memory_store.Call.{Call}
use Rattle.com_io.specs.declared.memory_store.Call.TheVariants as kept
use Rattle.com_io.specs.Stores.{StoreCall, Opened, Closed, Wrote}

-- what the store tells of a call that it keeps
abbrev pub call_of : Call → StoreCall
call_of (kept.Opened name ok) = Opened (string_bytes name) ok
call_of (kept.Closed left failed) = Closed left failed
call_of (kept.Wrote name bytes ok) = Wrote (string_bytes name) bytes.items ok
