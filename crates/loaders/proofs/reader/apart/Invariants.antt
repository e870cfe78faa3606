use Rattle.std.proofs.Common.{◌≡◌, ◌++◌, map}
use Rattle.loaders.proofs.reader.apart.Given as goal

abbrev pub invariant-loop-reader : goal.invariant-loop-reader
invariant-loop-reader g l = record {
  rest : l.yielded ++ l.reader-iterator.rest.items ≡ l.fn.readers.items;
  devices : l.devices.items ≡ map (λ (reader : _). reader.device) l.yielded;
  ahead : l.ahead.items ≡ map (λ (reader : _). reader.ahead) l.yielded;
}
