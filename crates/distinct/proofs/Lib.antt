mod DefaultSeed
