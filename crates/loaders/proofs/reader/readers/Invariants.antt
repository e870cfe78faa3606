use Rattle.std.proofs.Common.{◌≡◌, ◌++◌, [], All, map}
use Rattle.loaders.proofs.reader.readers.Given as goal

abbrev pub invariant-loop-device : goal.invariant-loop-device
invariant-loop-device g l = record {
  rest : l.yielded ++ l.device-iterator.rest.items ≡ l.fn.devices.items;
  made : map (λ (reader : _). reader.device) l.readers.items ≡ l.yielded;
  geometry : All (λ reader. reader.geometry ≡ l.geometry) l.readers.items;
  ahead : All (λ reader. reader.ahead.items ≡ []) l.readers.items;
}
