-- The numbers of the kinds of requests, as Linux's header `linux/fuse.h` has them.
use Rattle.std.specs.Prelude.{ℕ, ◌==◌, if◌then◌else◌}
use Rattle.fuse_wire.specs.declared.opcodes.Opcode.{Opcode}
use Rattle.fuse_wire.specs.declared.opcodes.Opcode.TheVariants as opcodes

unfoldable pub opcode_of : ℕ → Opcode
opcode_of n =
    if n == 1 then opcodes.Lookup
    else if n == 2 then opcodes.Forget
    else if n == 3 then opcodes.GetAttributes
    else if n == 4 then opcodes.SetAttributes
    else if n == 5 then opcodes.ReadSymbolicLink
    else if n == 6 then opcodes.MakeSymbolicLink
    else if n == 8 then opcodes.MakeNode
    else if n == 9 then opcodes.MakeDirectory
    else if n == 10 then opcodes.Unlink
    else if n == 11 then opcodes.RemoveDirectory
    else if n == 12 then opcodes.Rename
    else if n == 13 then opcodes.Link
    else if n == 14 then opcodes.Open
    else if n == 15 then opcodes.Read
    else if n == 16 then opcodes.Write
    else if n == 17 then opcodes.Statistics
    else if n == 18 then opcodes.Release
    else if n == 20 then opcodes.Sync
    else if n == 25 then opcodes.Flush
    else if n == 26 then opcodes.Init
    else if n == 27 then opcodes.OpenDirectory
    else if n == 28 then opcodes.ReadDirectory
    else if n == 29 then opcodes.ReleaseDirectory
    else if n == 30 then opcodes.SyncDirectory
    else if n == 35 then opcodes.Create
    else if n == 36 then opcodes.Interrupt
    else if n == 38 then opcodes.Destroy
    else if n == 42 then opcodes.BatchForget
    else if n == 43 then opcodes.Allocate
    else if n == 44 then opcodes.ReadDirectoryPlus
    else if n == 45 then opcodes.RenameWithFlags
    else if n == 50 then opcodes.SyncVolume
    else opcodes.Other n
