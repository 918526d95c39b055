mod Samples
